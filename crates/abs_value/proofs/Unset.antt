-- Operations leave the slots below the lowest written one unchanged.
use Rattle.std.proofs.Common.{◌≡◌, ◌≢◌, ℕ, zero, suc, ◌+◌, ◌-◌, ◌/◌, ◌%◌, ◌<◌, ◌≤◌, min, max}
use Rattle.std.proofs.Common.{List, [], ◌∷◌, ◌++◌, length, map, replicate, take, drop}
use Rattle.std.proofs.Common.{refl, sym, ap, ◌∙◌, arith, inl, inr, get_or, get_or-set_other}
use Rattle.std.specs.Prelude.{Bool, nat_le, slice_set}
use Rattle.std.specs.Int.Bits.{and_zero_l}
use Rattle.std.proofs.lemmas.Bool.{cases_Bool, cases_lt}
use Rattle.std.proofs.lemmas.Nat.{and_comm}
use Rattle.std.proofs.lemmas.List.{take-append-drop, length-drop, get_or_default}
use Rattle.std.proofs.Math.ListN.{drop_of_length-le}
use Rattle.abs_value.specs.declared.value.Abs.{Abs}
use Rattle.abs_value.specs.declared.slot.AbsSlot.{AbsSlot}
use Rattle.abs_value.specs.declared.slot.AbsSlot.TheVariants.{Kept, Bytes}
use Rattle.abs_value.specs.Lookups.{slot_with_answer}
use Rattle.abs_value.specs.Stack.{slot_at, AreUnsetBelow, is_whole_slot, with_set}
use Rattle.abs_value.specs.Stack.{first_bits, with_written, stored}
use Rattle.abs_value.specs.Stack.{join_slots, join_stacks}
use Rattle.abs_value.proofs.Slots.{slot_at-join}
use Rattle.abs_value.proofs.Known.{slot_at-answer}
use Rattle.abs_value.proofs.Writes.{unset}
use Rattle.abs_value.proofs.Lists.{IsMapped}

-- ---- a store

other_slot : (slots : List AbsSlot) (i j : ℕ) (v : AbsSlot) → i < j
    → slot_at (slice_set slots j v) i ≡ slot_at slots i
other_slot slots i j v lt =
    let ne : i ≢ j = omega (arith, lt) in get_or-set_other slots j i v (Bytes 0) ne

other_written : (slots : List AbsSlot) (place n i : ℕ) → i < place / 8
    → slot_at (with_written slots place n) i ≡ slot_at slots i
other_written slots place n i lt = elim (cases_Bool (nat_le (place % 8 + n) 8)) [
  | inl within ↦ rw within (other_slot slots i (place / 8) _ lt)
  | inr past ↦ rw past (other_slot (with_set slots (place / 8) (first_bits place n)) i
      (place / 8 + 1) _ (omega (arith, lt)) ∙ other_slot slots i (place / 8) _ lt)
]

other_stored : (slots : List AbsSlot) (place n : ℕ) (v : Abs) (i : ℕ) → i < place / 8
    → slot_at (stored slots place n v) i ≡ slot_at slots i
other_stored slots place n v i lt = elim (cases_Bool (is_whole_slot place n)) [
  | inl whole ↦ rw whole (other_slot slots i (place / 8) (Kept v) lt)
  | inr part ↦ rw part (other_written slots place n i lt)
]

pub unset_stored : (slots : List AbsSlot) (lowest place n : ℕ) (v : Abs)
    → AreUnsetBelow lowest slots → AreUnsetBelow (min lowest (place / 8)) (stored slots place n v)
unset_stored slots lowest place n v h = record {
  within = (let le = h.within in omega (arith, le));
  unset = λ i lt. other_stored slots place n v i (omega (arith, lt))
      ∙ h.unset i (omega (arith, lt));
}

-- ---- a join

joined_left : (a b : AbsSlot) → a ≡ Bytes 0 → join_slots a b ≡ Bytes 0
joined_left a (Kept w) e = rw e refl
joined_left a (Bytes n) e = rw e (ap Bytes (and_zero_l n))

joined_right : (a b : AbsSlot) → b ≡ Bytes 0 → join_slots a b ≡ Bytes 0
joined_right (Kept v) b e = rw e refl
joined_right (Bytes n) b e = rw e (ap Bytes (and_comm n 0 ∙ and_zero_l n))

-- below the lowest slot a join is the slot itself
pub joined_below : (slots other : List AbsSlot) (lowest k : ℕ) → AreUnsetBelow lowest slots
    → k < lowest → slot_at slots k ≡ join_slots (slot_at slots k) (slot_at other k)
joined_below slots other lowest k h lt =
    let none = h.unset k lt in
    none ∙ sym (joined_left (slot_at slots k) (slot_at other k) none)

-- for arrays whose elements are read with any default
pub joined_at : (slots old other : List AbsSlot) (i : ℕ) (d e v : AbsSlot) → i < length slots
    → i < length other → slot_at slots i ≡ slot_at old i
    → v ≡ join_slots (get_or slots i d) (get_or other i e)
    → v ≡ join_slots (slot_at old i) (slot_at other i)
joined_at slots old other i d e v one two same is =
    let first = get_or_default slots i d (Bytes 0) one in
    let second = get_or_default other i e (Bytes 0) two in is ∙ rw (first, second, same) refl

pub stands_at : (slots old other : List AbsSlot) (i : ℕ) (d e : AbsSlot) → i < length slots
    → i < length other → slot_at slots i ≡ slot_at old i
    → join_slots (get_or slots i d) (get_or other i e) ≡ get_or slots i d
    → slot_at slots i ≡ join_slots (slot_at old i) (slot_at other i)
stands_at slots old other i d e one two same stays =
    joined_at slots old other i d e (slot_at slots i) one two same
    (get_or_default slots i (Bytes 0) d one ∙ sym stays)

pub unset_joined : (a b : List AbsSlot) (i j : ℕ) → AreUnsetBelow i a → AreUnsetBelow j b
    → AreUnsetBelow (max i j) (join_stacks a b)
unset_joined a b i j h k = record {
  within = (let one = h.within in let two = k.within in omega (arith, one, two));
  unset = λ q lt. slot_at-join a b q (let one = h.within in let two = k.within in
      omega (arith, one, two, lt)) ∙ elim (cases_lt q i) [
        | inl first ↦ joined_left (slot_at a q) (slot_at b q) (h.unset q first)
        | inr past ↦ joined_right (slot_at a q) (slot_at b q) (k.unset q (omega (arith, past, lt)))
      ];
}

-- ---- a lookup's result

mapped_below : {X : Type 0} (f : X → X) (xs : List X) (k : ℕ) (d : X)
    → ((i : ℕ) → i < k → f (get_or xs i d) ≡ get_or xs i d) → IsMapped f xs k xs
mapped_below f xs zero d h = refl
mapped_below f [] (suc k) d h = refl
mapped_below f (x ∷ xs) (suc k) d h =
    let first : f x ≡ x = h 0 (omega arith) in
    let rest = mapped_below f xs k d (λ i lt. h (suc i) (omega (arith, lt))) in
    ap (λ l. x ∷ l) rest ∙ ap (λ y. y ∷ map f (take k xs) ++ drop k xs) (sym first)

pub answered_below : (slots : List AbsSlot) (lowest call : ℕ) (found : Bool)
    → AreUnsetBelow lowest slots → IsMapped (slot_with_answer call found) slots lowest slots
answered_below slots lowest call found h =
    mapped_below (slot_with_answer call found) slots lowest (Bytes 0)
    (λ i lt. rw (h.unset i lt) refl)

pub unset_answered : (slots : List AbsSlot) (lowest call : ℕ) (found : Bool)
    → AreUnsetBelow lowest slots → AreUnsetBelow lowest (map (slot_with_answer call found) slots)
unset_answered slots lowest call found h = record {
  within = h.within;
  unset = λ i lt. slot_at-answer slots call found i
      ∙ ap (slot_with_answer call found) (h.unset i lt);
}

-- ---- a copy

same_below : {X : Type 0} (xs ys : List X) (k : ℕ) (d : X) → k ≤ length xs → k ≤ length ys
    → ((i : ℕ) → i < k → get_or xs i d ≡ get_or ys i d) → take k xs ≡ take k ys
same_below xs ys zero d one two h = refl
same_below [] ys (suc k) d one two h = absurd (omega (arith, one))
same_below (x ∷ xs) [] (suc k) d one two h = absurd (omega (arith, two))
same_below (x ∷ xs) (y ∷ ys) (suc k) d one two h =
    let first : x ≡ y = h 0 (omega arith) in
    let rest = same_below xs ys k d (omega (arith, one)) (omega (arith, two))
    (λ i lt. h (suc i) (omega (arith, lt))) in rw (first, rest) refl

-- ys are the other's slots from `from` on
pub copied_above : (slots other ys : List AbsSlot) (from : ℕ) → length slots ≡ 64
    → length other ≡ 64 → AreUnsetBelow from slots → AreUnsetBelow from other
    → ys ≡ take (64 - from) (drop from other)
    → take from slots ++ (ys ++ drop (64 - from) (drop from slots)) ≡ other
copied_above slots other ys from long wide h k is =
    let le = h.within in
    let firsts = same_below slots other from (Bytes 0) (omega (arith, long, le))
    (omega (arith, wide, le)) (λ i lt. h.unset i lt ∙ sym (k.unset i lt)) in
    let one = length-drop from slots in
    let two = length-drop from other in
    let none : drop (64 - from) (drop from slots) ≡ drop (64 - from) (drop from other) =
    drop_of_length-le (drop from slots) (omega (arith, one, long))
    ∙ sym (drop_of_length-le (drop from other) (omega (arith, two, wide))) in
    rw (firsts, is, none) (ap (λ l. take from other ++ l)
    (take-append-drop (64 - from) (drop from other)) ∙ take-append-drop from other)

pub unset_less : (slots : List AbsSlot) (lowest lower : ℕ) → lower ≤ lowest
    → AreUnsetBelow lowest slots → AreUnsetBelow lower slots
unset_less slots lowest lower le h = record {
  within = (let top = h.within in omega (arith, le, top));
  unset = λ i lt. h.unset i (omega (arith, le, lt));
}

-- ---- the start of a run

pub unset_at_first : AreUnsetBelow 64 (replicate 64 (Bytes 0))
unset_at_first = record { within = omega arith; unset = λ i lt. unset 64 i }
