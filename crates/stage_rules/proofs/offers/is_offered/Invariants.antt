use Rattle.std.proofs.Common.{◌≡◌, length}
use Rattle.std.specs.List.{list_any}
use Rattle.stage_rules.specs.ReleaseHalts.{offers}
use Rattle.stage_rules.proofs.offers.is_offered.Given as goal

-- what is left decides
abbrev pub invariant-loop-left : goal.invariant-loop-left
invariant-loop-left l =
    list_any (offers l.releases l.version) l.left ≡ list_any (offers l.releases l.version) l.rule

abbrev pub decreases-loop-left : goal.decreases-loop-left
decreases-loop-left l = length l.left
