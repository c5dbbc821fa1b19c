-- The set bytes of a slot, and what a join of slots represents.
use Rattle.std.proofs.Common.{◌≡◌, ℕ, ◌/◌, ◌%◌, ◌^◌, ◌<◌, ◌≤◌, List}
use Rattle.std.proofs.Common.{Option, Some, refl, ◌∙◌, arith, inl, inr, map}
use Rattle.std.specs.Prelude.{IsSome, bit_and}
use Rattle.std.specs.List.{range_with_len}
use Rattle.std.proofs.lemmas.Bool.{cases_lt, cases_Bool}
use Rattle.std.proofs.lemmas.List.{get_or_past}
use Rattle.std.proofs.lemmas.List.FromFn.{get_or-map-range_with_len, length-map-range_with_len}
use Rattle.std.proofs.lemmas.Nat.Bits.{bit_at_and, bit_at-zero, bit_at-lt}
use Rattle.abs_value.specs.declared.value.Abs.{Abs}
use Rattle.abs_value.specs.declared.slot.AbsSlot.{AbsSlot}
use Rattle.abs_value.specs.declared.slot.AbsSlot.TheVariants.{Kept, Bytes}
use Rattle.abs_value.specs.Values.{is_unusable, join_values}
use Rattle.abs_value.specs.Stack.{mask_of, slot_at, kept_slot, join_slots, join_stacks}
use Rattle.abs_value.specs.Covers.{Returns, Includes, KeepsNumber, HasSet}
use Rattle.abs_value.specs.Covers.{CoversSlot, CoversStack, bytes_of}
use Rattle.abs_value.proofs.Computes.{included_left, included_right}

-- all bytes of a kept slot are set
some_is : (o : Option ℕ) (x : ℕ) → o ≡ Some x → IsSome o
some_is o x e = rw e refl

pub mask_set : (g : Returns) (slot : AbsSlot) (bytes : ℕ → Option ℕ) → CoversSlot g slot bytes
    → HasSet (mask_of slot) bytes
mask_set g (Kept v) bytes h =
    λ j lt bit. some_is (bytes j) (h.number / 256 ^ j % 256) (h.bytes_are j lt)
mask_set g (Bytes mask) bytes h = h

-- a slot's abstract value depends only on its eight bytes
pub same_bytes : (g : Returns) (slot : AbsSlot) (a b : ℕ → Option ℕ)
    → ((j : ℕ) → j < 8 → b j ≡ a j) → CoversSlot g slot a → CoversSlot g slot b
same_bytes g (Kept v) a b same h = record {
  number = h.number;
  word = h.word;
  included = h.included;
  bytes_are = λ j lt. same j lt ∙ h.bytes_are j lt;
}
same_bytes g (Bytes mask) a b same h = λ j lt bit. rw (same j lt) (h j lt bit)

-- ---- joins

both_set : (m n : ℕ) (bytes : ℕ → Option ℕ) → HasSet m bytes → HasSet (bit_and m n) bytes
both_set m n bytes h j lt bit =
    let least = bit_at_and m n j in
    let small = bit_at-lt m j in h j lt (omega (arith, least, bit, small))

both_set_right : (m n : ℕ) (bytes : ℕ → Option ℕ) → HasSet n bytes → HasSet (bit_and m n) bytes
both_set_right m n bytes h j lt bit =
    let least = bit_at_and m n j in
    let small = bit_at-lt n j in h j lt (omega (arith, least, bit, small))

-- a value that isn't unusable is kept
kept_covers : (g : Returns) (v w : Abs) (bytes : ℕ → Option ℕ) → KeepsNumber g v bytes
    → ((x : ℕ) → Includes g v x → Includes g w x) → CoversSlot g (kept_slot w) bytes
kept_covers g v w bytes h more = elim (cases_Bool (is_unusable w)) [
  | inl is ↦ rw is (mask_set g (Kept v) bytes h)
  | inr is ↦ rw is (record {
    number = h.number;
    word = h.word;
    included = more h.number h.included;
    bytes_are = h.bytes_are;
  })
]

join_slots_left : (g : Returns) (a b : AbsSlot) (bytes : ℕ → Option ℕ) → CoversSlot g a bytes
    → CoversSlot g (join_slots a b) bytes
join_slots_left g (Kept v) (Kept w) bytes h =
    kept_covers g v (join_values v w) bytes h (λ x k. included_left g v w x k)
join_slots_left g (Kept v) (Bytes n) bytes h = both_set 255 n bytes (mask_set g (Kept v) bytes h)
join_slots_left g (Bytes m) (Kept w) bytes h = both_set m 255 bytes h
join_slots_left g (Bytes m) (Bytes n) bytes h = both_set m n bytes h

join_slots_right : (g : Returns) (a b : AbsSlot) (bytes : ℕ → Option ℕ) → CoversSlot g b bytes
    → CoversSlot g (join_slots a b) bytes
join_slots_right g (Kept v) (Kept w) bytes h =
    kept_covers g w (join_values v w) bytes h (λ x k. included_right g v w x k)
join_slots_right g (Kept v) (Bytes n) bytes h = both_set_right 255 n bytes h
join_slots_right g (Bytes m) (Kept w) bytes h =
    both_set_right m 255 bytes (mask_set g (Kept w) bytes h)
join_slots_right g (Bytes m) (Bytes n) bytes h = both_set_right m n bytes h

pub slot_at-join : (a b : List AbsSlot) (i : ℕ) → i < 64
    → slot_at (join_stacks a b) i ≡ join_slots (slot_at a i) (slot_at b i)
unfolding join_stacks
slot_at-join a b i lt =
    get_or-map-range_with_len (λ (q : ℕ). join_slots (slot_at a q) (slot_at b q)) 0 64 i i
    (Bytes 0) lt (omega arith)

pub slot_at-join_past : (a b : List AbsSlot) (i : ℕ) → 64 ≤ i
    → slot_at (join_stacks a b) i ≡ Bytes 0
unfolding join_stacks
slot_at-join_past a b i le =
    let f : ℕ → AbsSlot = λ (q : ℕ). join_slots (slot_at a q) (slot_at b q) in
    get_or_past (map f (range_with_len 0 64)) i (Bytes 0)
    (omega (arith, length-map-range_with_len f 0 64))

-- no byte is known to be set
pub none_set : (bytes : ℕ → Option ℕ) → HasSet 0 bytes
none_set bytes j lt bit = let zero_is = bit_at-zero j in absurd (omega (arith, bit, zero_is))

pub stack_left : (g : Returns) (a b : List AbsSlot) (stack : ℕ → Option ℕ) → CoversStack g a stack
    → CoversStack g (join_stacks a b) stack
stack_left g a b stack h i = elim (cases_lt i 64) [
  | inl lt ↦ rw (slot_at-join a b i lt)
      (join_slots_left g (slot_at a i) (slot_at b i) (bytes_of stack i) (h i))
  | inr le ↦ rw (slot_at-join_past a b i le) (none_set (bytes_of stack i))
]

pub stack_right : (g : Returns) (a b : List AbsSlot) (stack : ℕ → Option ℕ) → CoversStack g b stack
    → CoversStack g (join_stacks a b) stack
stack_right g a b stack h i = elim (cases_lt i 64) [
  | inl lt ↦ rw (slot_at-join a b i lt)
      (join_slots_right g (slot_at a i) (slot_at b i) (bytes_of stack i) (h i))
  | inr le ↦ rw (slot_at-join_past a b i le) (none_set (bytes_of stack i))
]
