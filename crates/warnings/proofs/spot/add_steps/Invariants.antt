use Rattle.std.proofs.Common.{◌≡◌, length}
use Rattle.warnings.specs.Spots.{add_steps}
use Rattle.warnings.proofs.spot.add_steps.Given as goal

-- the remaining steps complete the list
abbrev pub invariant-loop-left : goal.invariant-loop-left
invariant-loop-left l = add_steps l.spots.items l.left ≡ add_steps l.initial.spots.items l.steps

abbrev pub decreases-loop-left : goal.decreases-loop-left
decreases-loop-left l = length l.left
