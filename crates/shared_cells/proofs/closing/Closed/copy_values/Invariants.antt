use Rattle.std.proofs.Common.{◌≡◌, ℕ, ◌<◌, length}
use Rattle.std.specs.Prelude.{slice_index}
use Rattle.shared_cells.proofs.closing.Closed.copy_values.Given as goal

-- the cells so far have their values
abbrev pub invariant-loop-cell : goal.invariant-loop-cell
invariant-loop-cell l = record {
  many : length l.values ≡ 8192;
  copied : (c : ℕ) → c < l.cell → slice_index l.values c ≡ slice_index l.fn.self.values c;
}
