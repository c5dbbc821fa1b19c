use Rattle.std.proofs.Common.{length}
use Rattle.report_state.specs.Places.{AreApart}
use Rattle.report_state.proofs.places.apart.Given as goal

-- the places so far
abbrev pub invariant-loop-place : goal.invariant-loop-place
invariant-loop-place l = AreApart l.places.items

abbrev pub decreases-loop-place : goal.decreases-loop-place
decreases-loop-place l = length l.left.items
