use Rattle.std.proofs.Common.{◌≡◌, ◌+◌, length}
use Rattle.std.specs.List.{position_or_len}
use Rattle.diff_rules.specs.Contents.{has_content_of}
use Rattle.diff_rules.proofs.contents.position_in.Given as goal

-- the position in the remaining ones, after the number of those before
abbrev pub invariant-loop-left : goal.invariant-loop-left
invariant-loop-left l =
    (l.place + position_or_len (has_content_of l.release) l.left
    ≡ position_or_len (has_content_of l.release) l.releases)
    × (l.place + length l.left ≡ length l.releases)

abbrev pub decreases-loop-left : goal.decreases-loop-left
decreases-loop-left l = length l.left
