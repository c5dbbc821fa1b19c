-- Which bytes of the stack are set after a store, and which slots are unchanged.
use Rattle.std.specs.Prelude.{◌≡◌, ℕ, ◌+◌, ◌*◌, ◌/◌, ◌<◌, ◌≤◌, List, length}
use Rattle.std.specs.Prelude.{Bool, false, ◌&&◌, ◌||◌, nat_le, nat_lt}
use Rattle.bpf_semantics.specs.Memory.{stack_size}
use Rattle.abs_value.specs.declared.slot.AbsSlot.{AbsSlot}
use Rattle.abs_value.specs.declared.value.Abs.{Abs}
use Rattle.abs_value.specs.Stack.{slot_at, is_set, stored}

-- one of n bytes from a place
abbrev pub is_written : ℕ → ℕ → ℕ → Bool
is_written place n byte = nat_le place byte && nat_lt byte (place + n)

-- for a store of at most 8 bytes within the stack, and any value: each byte is set afterwards
-- exactly if it was set before, or is written
abbrev pub StoresSetTheirBytes : Type 0
StoresSetTheirBytes =
    (slots : List AbsSlot) (place n byte : ℕ) (v : Abs)
    → 8 * length slots ≡ stack_size → n ≤ 8 → place + n ≤ stack_size
    → is_set (stored slots place n v) byte ≡ (is_set slots byte || is_written place n byte)

-- a slot of which no byte is written is unchanged, also if it keeps a value
abbrev pub OtherSlotsStay : Type 0
OtherSlotsStay =
    (slots : List AbsSlot) (place n i : ℕ) (v : Abs)
    → 0 < n → n ≤ 8 → ((byte : ℕ) → byte / 8 ≡ i → is_written place n byte ≡ false)
    → slot_at (stored slots place n v) i ≡ slot_at slots i
