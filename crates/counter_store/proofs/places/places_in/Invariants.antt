use Rattle.std.proofs.Common.{◌≡◌, length}
use Rattle.counter_store.specs.Places as specs
use Rattle.counter_store.proofs.places.places_in.Given as goal

abbrev pub invariant-loop-left : goal.invariant-loop-left
invariant-loop-left l = specs.places_in l.fn.arrays l.cell ≡ specs.places_in l.left l.cell

abbrev pub decreases-loop-left : goal.decreases-loop-left
decreases-loop-left l = length l.left
