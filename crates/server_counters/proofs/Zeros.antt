-- Values that are all 0.
use Rattle.std.proofs.Common.{ℕ, ◌<◌, List, sym, subst}
use Rattle.std.proofs.lemmas.Nat.{pow_pos}
use Rattle.cells.specs.Events.{AreCells, AreZeros, limit, width}

pub zeros_are_cells : (values : List ℕ) → AreZeros 8192 values → AreCells values
zeros_are_cells values zeros = record {
  count = zeros.count;
  fit = λ c. subst (λ (v : ℕ). v < limit c) (sym (zeros.zero c)) (pow_pos (width c));
}
