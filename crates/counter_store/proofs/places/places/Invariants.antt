use Rattle.std.proofs.Common.{◌≡◌, ℕ, ◌<◌, length}
use Rattle.std.specs.Prelude.{slice_index}
use Rattle.counter_store.specs.Places as specs
use Rattle.counter_store.proofs.places.places.Given as goal

-- the cells so far have their places
abbrev pub invariant-loop-cell : goal.invariant-loop-cell
invariant-loop-cell l = record {
  count : length l.places.items ≡ l.cell;
  each : (c : ℕ) → c < l.cell → slice_index l.places.items c ≡ specs.places_in l.arrays c;
}
