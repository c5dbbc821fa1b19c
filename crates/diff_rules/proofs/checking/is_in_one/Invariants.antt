use Rattle.std.proofs.Common.{◌≡◌, length}
use Rattle.diff_rules.specs.Checks.{is_in_one}
use Rattle.diff_rules.proofs.checking.is_in_one.Given as goal

-- the remaining ones decide
abbrev pub invariant-loop-left : goal.invariant-loop-left
invariant-loop-left l =
    is_in_one l.left l.class ≡ is_in_one l.rows l.class

abbrev pub decreases-loop-left : goal.decreases-loop-left
decreases-loop-left l = length l.left
