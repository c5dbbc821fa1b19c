use Rattle.std.proofs.Common.{◌≡◌, ℕ, ◌<◌, length}
use Rattle.std.specs.Prelude.{slice_index}
use Rattle.cells.specs.Events.{limit}
use Rattle.shared_cells.proofs.shared.SharedCells.copy_values.Given as goal

-- the cells so far have their values
abbrev pub invariant-loop-cell : goal.invariant-loop-cell
invariant-loop-cell l = record {
  many : length l.values ≡ 8192;
  fit : (c : ℕ) → c < l.cell → slice_index l.values c < limit c;
}
