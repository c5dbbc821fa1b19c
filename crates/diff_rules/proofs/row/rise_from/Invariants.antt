use Rattle.std.proofs.Common.{◌≡◌, length}
use Rattle.diff_space.specs.Numbers.{is_rising_from}
use Rattle.diff_rules.proofs.row.rise_from.Given as goal

-- the remaining ones decide
abbrev pub invariant-loop-left : goal.invariant-loop-left
invariant-loop-left l =
    is_rising_from l.last l.before l.left ≡ is_rising_from l.last l.first l.others

abbrev pub decreases-loop-left : goal.decreases-loop-left
decreases-loop-left l = length l.left
