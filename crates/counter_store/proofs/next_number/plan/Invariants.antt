use Rattle.std.proofs.Common.{◌≡◌, ℕ, ◌<◌, ◌≤◌, length}
use Rattle.std.specs.Prelude.{slice_index}
use Rattle.cells.specs.Events.{limit}
use Rattle.counter_store.proofs.next_number.plan.Given as goal

-- the cells so far have their next numbers
abbrev pub invariant-loop-cell : goal.invariant-loop-cell
invariant-loop-cell l = record {
  count : length l.next ≡ 8192;
  fit : (c : ℕ) → c < l.cell → slice_index l.next c < limit c;
  not_lower : (c : ℕ) → c < l.cell → c < 4096 → 0 < slice_index l.places c
      → slice_index l.numbers c ≤ slice_index l.next c;
  plain : (c : ℕ) → c < l.cell → c < 4096 → slice_index l.places c ≡ 0
      → slice_index l.next c ≡ slice_index l.present c;
  narrow : (c : ℕ) → c < l.cell → 4096 ≤ c → slice_index l.next c ≡ slice_index l.present c;
}
