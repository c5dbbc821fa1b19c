use Rattle.std.proofs.Common.{◌≡◌, ℕ, ◌<◌, ◌≤◌, length}
use Rattle.std.specs.Prelude.{slice_index}
use Rattle.kept_cells.proofs.ticket_notes.clear.Given as goal

-- the cells so far have 0
abbrev pub invariant-loop-cell : goal.invariant-loop-cell
invariant-loop-cell l = record {
  count : length l.numbers ≡ 4096;
  zero : (k : ℕ) → k < l.cell → slice_index l.numbers k ≡ 0;
  from_high : (k : ℕ) → l.high ≤ k → slice_index l.numbers k ≡ 0;
}
