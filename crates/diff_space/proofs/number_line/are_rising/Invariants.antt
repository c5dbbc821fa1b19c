use Rattle.std.proofs.Common.{◌≡◌, length}
use Rattle.diff_space.specs.Numbers.{are_rising, is_rising_from}
use Rattle.diff_space.proofs.number_line.are_rising.Given as goal

-- the remaining ends decide
abbrev pub invariant-loop-left : goal.invariant-loop-left
invariant-loop-left l = is_rising_from l.last l.before l.left ≡ are_rising l.last l.starts

abbrev pub decreases-loop-left : goal.decreases-loop-left
decreases-loop-left l = length l.left
