use Rattle.std.proofs.Common.{◌≡◌, ◌+◌, length, sum}
use Rattle.timeline.proofs.newest.sum_of.Given as goal

-- the total so far and the remaining numbers make the whole
abbrev pub invariant-loop-left : goal.invariant-loop-left
invariant-loop-left l = l.total + sum l.left ≡ sum l.numbers

abbrev pub decreases-loop-left : goal.decreases-loop-left
decreases-loop-left l = length l.left
