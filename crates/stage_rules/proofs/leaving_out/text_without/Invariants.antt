use Rattle.std.proofs.Common.{length, string_bytes}
use denote.Shadow.{shadow}
use denote.Text.{Utf8}
use Rattle.stage_rules.specs.ReleaseHalts.{IsSoFar}
use Rattle.stage_rules.proofs.leaving_out.text_without.Given as goal

-- the text so far, with whatever the rest becomes, is the whole
abbrev pub invariant-loop-split : goal.invariant-loop-split
invariant-loop-split l =
    shadow (Utf8 l.left)
    × IsSoFar l.shape l.releases l.version l.text l.left (string_bytes l.new)

abbrev pub decreases-loop-split : goal.decreases-loop-split
decreases-loop-split l = length l.left
