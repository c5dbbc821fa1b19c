use Rattle.std.proofs.Common.{length}
use Rattle.simulate.proofs.Places.{IsRemaining}
use Rattle.simulate.proofs.simulated.place_of.Given as goal

abbrev pub invariant-loop-left : goal.invariant-loop-left
invariant-loop-left l = IsRemaining l.apps l.appid l.place l.left

abbrev pub decreases-loop-left : goal.decreases-loop-left
decreases-loop-left l = length l.left
