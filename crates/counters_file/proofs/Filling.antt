-- Values that are set one after another, from zeros on.
use Rattle.std.proofs.Common.{◌≡◌, ◌≢◌, ℕ, ◌+◌, ◌<◌, ◌≤◌, List, length, refl, sym, ◌∙◌, subst}
use Rattle.std.proofs.Common.{get_or-set_same, get_or-set_other, length-set, inl, inr, arith}
use Rattle.std.specs.Prelude.{◌⊎◌, slice_index, slice_set}
use Rattle.std.proofs.lemmas.List.{ext_get_or}
use mathlib.Core.Logic.{dite}
use native.Mathlib.Decide.{ℕ_discrete}

-- a cell has its last value and isn't to come, or is still 0 and is to come
abbrev pub IsFilled : (last now : List ℕ) → (comes : ℕ → Type 0) → ℕ → Type 0
IsFilled last now comes c =
    ((slice_index now c ≡ slice_index last c) × (comes c → ⊥))
    ⊎ ((slice_index now c ≡ 0) × comes c)

-- values of which some are to come
pub record AreFilled (last now : List ℕ) (comes : ℕ → Type 0) : Type 0 where
  pub count : length now ≡ 8192
  pub each : (c : ℕ) → IsFilled last now comes c

-- what is to come, in other words
pub same_to_come : (last now : List ℕ) (old new : ℕ → Type 0) → ((c : ℕ) → old c → new c)
    → ((c : ℕ) → new c → old c) → AreFilled last now old → AreFilled last now new
same_to_come last now old new there back filled = record {
  count = filled.count;
  each = λ c. at c (filled.each c);
}
  where
    at : (c : ℕ) → IsFilled last now old c → IsFilled last now new c
    at c (inl h) = inl (h.0, λ n. h.1 (back c n))
    at c (inr h) = inr (h.0, there c h.1)

-- nothing is to come
pub all_filled : (last now : List ℕ) (comes : ℕ → Type 0) → ((c : ℕ) → comes c → ⊥)
    → length last ≡ 8192 → AreFilled last now comes → now ≡ last
all_filled last now comes none count filled =
    ext_get_or 0 now last (filled.count ∙ sym count) (λ c lt. at c (filled.each c))
  where
    at : (c : ℕ) → IsFilled last now comes c → slice_index now c ≡ slice_index last c
    at c (inl h) = h.0
    at c (inr h) = absurd (none c h.1)

-- a cell that is to come is 0
pub still_zero : (last now : List ℕ) (comes : ℕ → Type 0) (c : ℕ) → comes c
    → AreFilled last now comes → slice_index now c ≡ 0
still_zero last now comes c due filled = at (filled.each c)
  where
    at : IsFilled last now comes c → slice_index now c ≡ 0
    at (inl h) = absurd (h.1 due)
    at (inr h) = h.0

-- the cells of a row from this one on, and then others
abbrev pub FromOn : (cell end : ℕ) → (later : ℕ → Type 0) → ℕ → Type 0
FromOn cell end later c = ((cell ≤ c) × (c < end)) ⊎ later c

module _ (last : List ℕ) (cell next end : ℕ) (later : ℕ → Type 0) (after : next ≡ cell + 1)
    (within : cell < end) (apart : later cell → ⊥) where
  others : (now new : List ℕ) (c : ℕ) → c ≢ cell → slice_index new c ≡ slice_index now c
      → IsFilled last now (FromOn cell end later) c → IsFilled last new (FromOn next end later) c
  others now new c ne same (inl h) = inl (same ∙ h.0, λ n. h.1 (back n))
    where
      back : FromOn next end later c → FromOn cell end later c
      back (inl n) =
          let low = n.0 in
          inl (omega (arith, low, after), n.1)
      back (inr l) = inr l
  others now new c ne same (inr h) = inr (same ∙ h.0, on h.1)
    where
      on : FromOn cell end later c → FromOn next end later c
      on (inl n) =
          let low = n.0 in
          inl (omega (arith, low, ne, after), n.1)
      on (inr l) = inr l

  here : (new : List ℕ) → slice_index new cell ≡ slice_index last cell
      → IsFilled last new (FromOn next end later) cell
  here new is = inl (is, λ n. not n)
    where
      not : FromOn next end later cell → ⊥
      not (inl n) =
          let low = n.0 in
          omega (arith, low, after)
      not (inr l) = apart l

  -- the cell's last value is 0
  pub zero_passed : (now : List ℕ) → slice_index last cell ≡ 0
      → AreFilled last now (FromOn cell end later) → AreFilled last now (FromOn next end later)
  zero_passed now zero filled =
      let due : FromOn cell end later cell = inl (omega arith, within) in
      let is = still_zero last now (FromOn cell end later) cell due filled in
      record {
        count = filled.count;
        each = λ c. dite (ℕ_discrete c cell)
            (λ (same : c ≡ cell).
            subst (IsFilled last now (FromOn next end later)) (sym same)
            (here now (is ∙ sym zero)))
            (λ (ne : c ≢ cell). others now now c ne refl (filled.each c));
      }

  -- the cell is set to its last value
  pub value_set : (now : List ℕ) → cell < 8192 → AreFilled last now (FromOn cell end later)
      → AreFilled last (slice_set now cell (slice_index last cell)) (FromOn next end later)
  value_set now low filled =
      let count = filled.count in
      let v = slice_index last cell in
      let new = slice_set now cell v in
      let there : cell < length now = omega (arith, low, count) in
      record {
        count = length-set now cell v ∙ filled.count;
        each = λ c. dite (ℕ_discrete c cell)
            (λ (same : c ≡ cell).
            subst (IsFilled last new (FromOn next end later)) (sym same)
            (here new (get_or-set_same now cell v 0 there)))
            (λ (ne : c ≢ cell).
            others now new c ne (get_or-set_other now cell c v 0 ne) (filled.each c));
      }
