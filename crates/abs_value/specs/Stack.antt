-- The abstract stack: for each of its 64 aligned slots of 8 bytes, the value that it keeps, or
-- which bytes are set.
use Rattle.std.specs.Prelude.{◌≡◌, ◌<◌, ◌≤◌, ℕ, zero, suc, ◌+◌, ◌-◌, ◌*◌, ◌/◌, ◌%◌, ◌^◌}
use Rattle.std.specs.Prelude.{ℤ, pos, negsuc, ◌+ℤ◌}
use Rattle.std.specs.Prelude.{List, map, Bool, false, ◌&&◌, ◌||◌, not, nat_lt, nat_le, ◌==◌}
use Rattle.std.specs.Prelude.{if◌then◌else◌, slice_index_or, slice_set, bit_and, bit_or}
use Rattle.std.specs.Int.{bit_at}
use Rattle.std.specs.List.{range_with_len}
use Rattle.bpf_insn.specs.declared.operand.LoadKind.{LoadKind}
use Rattle.bpf_insn.specs.declared.operand.LoadKind.TheVariants.{Double}
use Rattle.bpf_semantics.specs.Memory.{stack_size}
use Rattle.abs_value.specs.declared.value.Abs.{Abs}
use Rattle.abs_value.specs.declared.slot.AbsSlot.{AbsSlot}
use Rattle.abs_value.specs.declared.slot.AbsSlot.TheVariants.{Kept, Bytes}
use Rattle.abs_value.specs.Values.{is_unusable, loaded_value, join_values}

-- ---- the set bytes of a slot: one bit for each, the lowest for the first byte

abbrev pub all_set : ℕ
all_set = 255

-- all bytes of a slot that keeps a value are set
abbrev pub mask_of : AbsSlot → ℕ
mask_of (Kept v) = all_set
mask_of (Bytes mask) = mask

-- past the end of the stack no byte is set
abbrev pub slot_at : List AbsSlot → ℕ → AbsSlot
slot_at slots i = slice_index_or slots i (Bytes 0)

abbrev pub is_set : List AbsSlot → ℕ → Bool
is_set slots place = bit_at (mask_of (slot_at slots (place / 8))) (place % 8) == 1

-- the byte is in the stack and isn't set
abbrev pub is_unset : List AbsSlot → ℤ → Bool
is_unset slots (pos place) = nat_lt place stack_size && not (is_set slots place)
is_unset slots (negsuc n) = false

-- no byte of the slots below `lowest` is set
pub record AreUnsetBelow (lowest : ℕ) (slots : List AbsSlot) : Type 0 where
  pub within : lowest ≤ 64
  pub unset : (i : ℕ) → i < lowest → slot_at slots i ≡ Bytes 0

-- any of n bytes from a place is in the stack and unset
abbrev pub has_unset : List AbsSlot → ℤ → ℕ → Bool
has_unset slots place zero = false
has_unset slots place (suc n) = has_unset slots place n || is_unset slots (place +ℤ pos n)

-- ---- stores and loads

abbrev pub is_whole_slot : ℕ → ℕ → Bool
is_whole_slot place n = (n == 8) && (place % 8 == 0)

abbrev pub with_set : List AbsSlot → ℕ → ℕ → List AbsSlot
with_set slots i mask = slice_set slots i (Bytes (bit_or (mask_of (slot_at slots i)) mask))

-- the mask of n bytes from a place, for its slot and the next
abbrev pub bits_of : ℕ → ℕ → ℕ
bits_of place n = (2 ^ n - 1) * 2 ^ (place % 8)

abbrev pub first_bits : ℕ → ℕ → ℕ
first_bits place n = bits_of place n % 2 ^ 8

abbrev pub next_bits : ℕ → ℕ → ℕ
next_bits place n = bits_of place n / 2 ^ 8

-- each slot that is touched gets the bytes that are written: one slot, or two if the store passes
-- its end
abbrev pub with_written : List AbsSlot → ℕ → ℕ → List AbsSlot
with_written slots place n =
    if nat_le (place % 8 + n) 8 then with_set slots (place / 8) (first_bits place n)
    else
    with_set (with_set slots (place / 8) (first_bits place n)) (place / 8 + 1) (next_bits place n)

-- the slots after a store of n bytes: a whole slot keeps the value
abbrev pub stored : List AbsSlot → ℕ → ℕ → Abs → List AbsSlot
stored slots place n v =
    if is_whole_slot place n then slice_set slots (place / 8) (Kept v)
    else with_written slots place n

-- the value that the whole slot keeps, otherwise the other
abbrev pub kept_or : AbsSlot → Abs → Abs
kept_or (Kept v) other = v
kept_or (Bytes mask) other = other

-- the value of a load from the stack
abbrev pub loaded_from : List AbsSlot → ℕ → LoadKind → Abs
loaded_from slots place Double =
    if place % 8 == 0 then kept_or (slot_at slots (place / 8)) (loaded_value Double)
    else loaded_value Double
loaded_from slots place kind = loaded_value kind

-- ---- joins

-- an unusable value isn't kept
abbrev pub kept_slot : Abs → AbsSlot
kept_slot v = if is_unusable v then Bytes all_set else Kept v

abbrev pub join_slots : AbsSlot → AbsSlot → AbsSlot
join_slots (Kept a) (Kept b) = kept_slot (join_values a b)
join_slots a b = Bytes (bit_and (mask_of a) (mask_of b))

unfoldable pub join_stacks : List AbsSlot → List AbsSlot → List AbsSlot
join_stacks a b = map (λ i. join_slots (slot_at a i) (slot_at b i)) (range_with_len 0 64)
