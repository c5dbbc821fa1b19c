-- The values with which a file is read: 8192 zeros.
use Rattle.std.proofs.Common.{◌≡◌, ℕ, ◌<◌, ◌≤◌, List, sym, subst, ◌∙◌, arith, inl, inr}
use Rattle.std.specs.Prelude.{◌⊎◌, replicate, slice_index}
use Rattle.std.proofs.lemmas.Bool.{cases_lt}
use Rattle.std.proofs.lemmas.List.{length-replicate, get_or-replicate, get_or_past, ext_get_or}
use Rattle.std.proofs.lemmas.Nat.{pow_pos}
use Rattle.cells.specs.Events.{width, limit, AreCells, AreZeros}
use Rattle.counters_file.specs.Text.{zeros}

below_limit : (c : ℕ) → 0 < limit c
below_limit c = pow_pos (width c)

pub are_zeros : (n c : ℕ) → slice_index (replicate n 0) c ≡ 0
are_zeros n c = at (cases_lt c n)
  where
    at : (c < n) ⊎ (n ≤ c) → slice_index (replicate n 0) c ≡ 0
    at (inl within) = get_or-replicate n c 0 0 within
    at (inr past) =
        let size = length-replicate {A = ℕ} n 0 in
        get_or_past (replicate n 0) c 0 (omega (arith, size, past))

pub zeros_are : (values : List ℕ) → AreZeros 8192 values → values ≡ zeros
unfolding zeros
zeros_are values are =
    ext_get_or 0 values (replicate 8192 0) (are.count ∙ sym (length-replicate {A = ℕ} 8192 0))
    (λ c lt. are.zero c ∙ sym (are_zeros 8192 c))

pub zeros_fit : (values : List ℕ) → AreZeros 8192 values → AreCells values
zeros_fit values are = record {
  count = are.count;
  fit = λ c. subst (λ (v : ℕ). v < limit c) (sym (are.zero c)) (below_limit c);
}
