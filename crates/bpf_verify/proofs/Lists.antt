-- Elements of lists, and the indices of slots.
use Rattle.std.proofs.Common.{◌≡◌, ◌≢◌, ℕ, zero, suc, ◌+◌, ◌<◌, List, [], ◌∷◌, ◌++◌, length}
use Rattle.std.proofs.Common.{Option, Some, None, refl, sym, ap, ◌∙◌, arith, inl, inr}
use Rattle.std.specs.Prelude.{◌⊎◌, slice_index_or, slice_get, slice_set}
use Rattle.std.proofs.lemmas.Bool.{cases_lt}
use Rattle.std.proofs.lemmas.Grind.{common_steps}
use Rattle.std.proofs.lemmas.List.{get_or_past}
use Rattle.std.proofs.lemmas.Option.{same_Some, none-some, slice_get_read}
use Rattle.abs_value.specs.declared.state.AbsState.{AbsState}
use Rattle.bpf_verify.specs.Pool.{index_at}

-- ---- elements

pub get-end : {X : Type 0} (xs : List X) (x : X) → slice_get (xs ++ x ∷ []) (length xs) ≡ Some x
get-end [] x = refl
get-end (y ∷ xs) x = get-end xs x

pub get-before : {X : Type 0} (xs : List X) (x : X) (j : ℕ) → j < length xs
    → slice_get (xs ++ x ∷ []) j ≡ slice_get xs j
get-before [] x j lt = absurd (omega (arith, lt))
get-before (y ∷ xs) x zero lt = refl
get-before (y ∷ xs) x (suc j) lt = get-before xs x j (omega (arith, lt))

-- an element of the longer list is in the shorter one, or is the last
pub get-cases : {X : Type 0} (xs : List X) (x : X) (j : ℕ) (y : X)
    → slice_get (xs ++ x ∷ []) j ≡ Some y
    → (slice_get xs j ≡ Some y) ⊎ ((j ≡ length xs) × (y ≡ x))
get-cases [] x zero y e = inr (refl, sym (same_Some x y e))
get-cases [] x (suc j) y e = absurd (none-some y e)
get-cases (z ∷ xs) x zero y e = inl e
get-cases (z ∷ xs) x (suc j) y e = elim (get-cases xs x j y e) [
  | inl h ↦ inl h
  | inr h ↦ inr (ap suc h.0, h.1)
]

pub length-append-one : {X : Type 0} (xs : List X) (x : X) → length (xs ++ x ∷ []) ≡ length xs + 1
length-append-one [] x = refl
length-append-one (y ∷ xs) x = let h = length-append-one xs x in omega (arith, h)

pub get-within : {X : Type 0} (xs : List X) (j : ℕ) (y : X) → slice_get xs j ≡ Some y
    → j < length xs
get-within [] j y e = absurd (none-some y e)
get-within (x ∷ xs) zero y e = omega arith
get-within (x ∷ xs) (suc j) y e = let h = get-within xs j y e in omega (arith, h)

pub get-longer : {X : Type 0} (xs : List X) (x : X) (j : ℕ) (y : X) → slice_get xs j ≡ Some y
    → slice_get (xs ++ x ∷ []) j ≡ Some y
get-longer xs x j y e = get-before xs x j (get-within xs j y e) ∙ e

pub get-set_same : {X : Type 0} (xs : List X) (i : ℕ) (x : X) → i < length xs
    → slice_get (slice_set xs i x) i ≡ Some x
get-set_same [] i x lt = absurd (omega (arith, lt))
get-set_same (y ∷ xs) zero x lt = refl
get-set_same (y ∷ xs) (suc i) x lt = get-set_same xs i x (omega (arith, lt))

pub get-set_other : {X : Type 0} (xs : List X) (i j : ℕ) (x : X) → j ≢ i
    → slice_get (slice_set xs i x) j ≡ slice_get xs j
get-set_other [] i j x ne = refl
get-set_other (y ∷ xs) zero zero x ne = absurd (ne refl)
get-set_other (y ∷ xs) zero (suc j) x ne = refl
get-set_other (y ∷ xs) (suc i) zero x ne = refl
get-set_other (y ∷ xs) (suc i) (suc j) x ne = get-set_other xs i j x (λ e. ne (ap suc e))

-- ---- the index of a slot

pub index-set_same : (ps : List (Option ℕ)) (m : ℕ) (v : Option ℕ) → m < length ps
    → index_at (slice_set ps m v) m ≡ v
index-set_same ps m v lt = grind (arith, common_steps)

pub index-set_other : (ps : List (Option ℕ)) (m n : ℕ) (v : Option ℕ) → n ≢ m
    → index_at (slice_set ps m v) n ≡ index_at ps n
index-set_other ps m n v ne = grind (arith, common_steps)

pub index_within : (ps : List (Option ℕ)) (m i : ℕ) → index_at ps m ≡ Some i → m < length ps
index_within ps m i e = elim (cases_lt m (length ps)) [
  | inl lt ↦ lt
  | inr le ↦ absurd (none-some i (sym (get_or_past ps m None le) ∙ e))
]

pub index_is : (ps : List (Option ℕ)) (m : ℕ) (o : Option ℕ)
    → m < length ps → o ≡ slice_index_or ps m o → index_at ps m ≡ o
index_is [] m o lt e = absurd (omega (arith, lt))
index_is (p ∷ ps) zero o lt e = sym e
index_is (p ∷ ps) (suc m) o lt e = index_is ps m o (omega (arith, lt)) e

-- ---- the entry at an index

pub get_at : (es : List AbsState) (i : ℕ) (e : AbsState) → i < length es → e ≡ slice_index_or es i e
    → slice_get es i ≡ Some e
get_at es i e lt is = slice_get_read es (length es) i e refl lt is
