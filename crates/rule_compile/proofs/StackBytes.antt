-- Which bytes of the stack a store sets, and that the bytes of a text are set.
use Rattle.std.proofs.Common.{◌≡◌, ℕ, ◌+◌, ◌*◌, ◌/◌, ◌%◌, ◌<◌, ◌≤◌, ◌^◌}
use Rattle.std.proofs.Common.{List, length, Bool, true, refl, subst, arith, inl, inr}
use Rattle.std.specs.Prelude.{◌==◌, ◌&&◌, ◌⊎◌, nat_le, nat_lt, bit_or}
use Rattle.std.specs.Int.{bit_at}
use Rattle.std.proofs.lemmas.Bool.{cases_lt, cases_eq, le-leb, lt-ltb}
use Rattle.std.proofs.lemmas.List.{get_or-set_same, get_or-set_other}
use Rattle.std.proofs.lemmas.Nat.Bits.{bit_at_or, bit_at-lt, bit_at_mask_inside}
use Rattle.abs_value.specs.declared.slot.AbsSlot.{AbsSlot}
use Rattle.abs_value.specs.declared.slot.AbsSlot.TheVariants.{Bytes}
use Rattle.abs_value.specs.Stack.{mask_of, slot_at, is_set, first_bits, with_set}
use Rattle.bpf_verify.specs.Table.{SlotFacts}

-- ---- the bytes that a store sets

bit_is : (n : ℕ) → (n == 1) ≡ true → n ≡ 1
bit_is n h = grind (arith, h)

is_bit : (n : ℕ) → n ≡ 1 → (n == 1) ≡ true
is_bit n h = grind (arith, h)

left_bit : (m n k : ℕ) → bit_at m k ≡ 1 → bit_at (bit_or m n) k ≡ 1
left_bit m n k h = let most = bit_at_or m n k in let small = bit_at-lt n k in
    omega (arith, most, h, small)

right_bit : (m n k : ℕ) → bit_at n k ≡ 1 → bit_at (bit_or m n) k ≡ 1
right_bit m n k h = let most = bit_at_or m n k in let small = bit_at-lt m k in
    omega (arith, most, h, small)

-- the bits of a word in its slot
word_bits : (low k : ℕ) → (low ≡ 0) ⊎ (low ≡ 4) → low ≤ k → k < low + 4
    → bit_at (15 * 2 ^ low % 2 ^ 8) k ≡ 1
word_bits low k (inl is) le lt = rw is
    (bit_at_mask_inside 0 4 k (omega arith) (omega (arith, lt, is)))
word_bits low k (inr is) le lt = rw is
    (bit_at_mask_inside 4 8 k (omega (arith, le, is)) (omega (arith, lt, is)))

one_slot : (place : ℕ) → place % 4 ≡ 0 → (place % 8 ≡ 0) ⊎ (place % 8 ≡ 4)
one_slot place h = elim (cases_lt (place % 8) 4) [
  | inl lt ↦ inl (omega (arith, h, lt))
  | inr le ↦ inr (omega (arith, h, le))
]

-- set bytes stay set, and the word's bytes are set
abbrev IsTouched : ℕ → ℕ → Type 0
IsTouched place q = (place ≤ q) × (q < place + 4)

set_slot : (slots : List AbsSlot) (place q : ℕ) → length slots ≡ 64 → place < 512
    → q / 8 ≡ place / 8 → bit_at (bit_or (mask_of (slot_at slots (place / 8))) (first_bits place 4))
    (q % 8) ≡ 1
    → is_set (with_set slots (place / 8) (first_bits place 4)) q ≡ true
set_slot slots place q wide lt same bit =
    let i : ℕ = place / 8 in
    let new : AbsSlot = Bytes (bit_or (mask_of (slot_at slots i)) (first_bits place 4)) in
    let within : i < length slots = omega (arith, wide, lt) in
    rw (same, get_or-set_same slots i new (Bytes 0) within)
    (is_bit (bit_at (mask_of new) (q % 8)) bit)

old_byte : (slots : List AbsSlot) (place q : ℕ) → length slots ≡ 64 → place < 512
    → is_set slots q ≡ true → is_set (with_set slots (place / 8) (first_bits place 4)) q ≡ true
old_byte slots place q wide lt h = elim (cases_eq (q / 8) (place / 8)) [
  | inl same ↦ let here : is_set slots q ≡ true = h in
      let bit : bit_at (mask_of (slot_at slots (place / 8))) (q % 8) ≡ 1 =
      subst (λ (i : ℕ). bit_at (mask_of (slot_at slots i)) (q % 8) ≡ 1) same
      (bit_is (bit_at (mask_of (slot_at slots (q / 8))) (q % 8)) here) in
      set_slot slots place q wide lt same
      (left_bit (mask_of (slot_at slots (place / 8))) (first_bits place 4) (q % 8) bit)
  | inr other ↦ rw (get_or-set_other slots (place / 8) (q / 8)
      (Bytes (bit_or (mask_of (slot_at slots (place / 8))) (first_bits place 4))) (Bytes 0) other) h
]

new_byte : (slots : List AbsSlot) (place q : ℕ) → length slots ≡ 64 → place < 512 → place % 4 ≡ 0
    → IsTouched place q → is_set (with_set slots (place / 8) (first_bits place 4)) q ≡ true
new_byte slots place q wide lt four h =
    let same : q / 8 ≡ place / 8 = omega (arith, four, h.0, h.1) in
    let low : place % 8 ≤ q % 8 = omega (arith, four, h.0, h.1) in
    let high : q % 8 < place % 8 + 4 = omega (arith, four, h.0, h.1) in
    set_slot slots place q wide lt same
    (right_bit (mask_of (slot_at slots (place / 8))) (first_bits place 4) (q % 8)
    (word_bits (place % 8) (q % 8) (one_slot place four) low high))

-- ---- the bytes of a text

-- n bytes, from 64 below the top on
abbrev pub text_set : ℕ → ℕ → Bool
text_set n place = nat_le 448 place && nat_lt place (448 + n)

abbrev pub with_text : SlotFacts → ℕ → SlotFacts
with_text d n = record { registers = d.registers; set = text_set n }

pub text_place : (n place : ℕ) → text_set n place ≡ true → (448 ≤ place) × (place < 448 + n)
text_place n place h = (grind (arith, h), grind (arith, h))

pub in_text : (n place : ℕ) → 448 ≤ place → place < 448 + n → text_set n place ≡ true
in_text n place low high = rw (le-leb 448 place low, lt-ltb place (448 + n) high) refl

-- one word more
pub more_set : (slots : List AbsSlot) (n : ℕ) → length slots ≡ 64 → n < 64 → n % 4 ≡ 0
    → ((place : ℕ) → place < 512 → text_set n place ≡ true → is_set slots place ≡ true)
    → (place : ℕ) → place < 512 → text_set (n + 4) place ≡ true
    → is_set (with_set slots ((448 + n) / 8) (first_bits (448 + n) 4)) place ≡ true
more_set slots n wide few four old place lt h =
    let range = text_place (n + 4) place h in
    elim (cases_lt place (448 + n)) [
      | inl before ↦ old_byte slots (448 + n) place wide (omega (arith, few))
          (old place lt (in_text n place range.0 before))
      | inr from ↦ new_byte slots (448 + n) place wide (omega (arith, few)) (omega (arith, four))
          (from, omega (arith, range.1))
    ]
