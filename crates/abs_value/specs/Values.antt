-- Abstract values: unusable, a number with its range and known bits, or a pointer with its region
-- and the places there.
use Rattle.std.specs.Prelude.{ℕ, ◌-◌, ◌*◌, ◌%◌, ◌^◌, min, max, ℤ, pos, neg_ℤ, ◌+ℤ◌, unsigned_abs}
use Rattle.std.specs.Prelude.{int_le, Option, Some, None, option_map, Bool, true, false, ◌&&◌, ◌==◌}
use Rattle.std.specs.Prelude.{if◌then◌else◌}
use Rattle.std.specs.Int.{w64, cast_signed}
use Rattle.bpf_insn.specs.declared.operand.AluOp.{AluOp}
use Rattle.bpf_insn.specs.declared.operand.AluOp.TheVariants.{Add, Sub}
use Rattle.bpf_insn.specs.declared.operand.Bits.{Bits}
use Rattle.bpf_insn.specs.declared.operand.Bits.TheVariants.{Bits64, Bits32}
use Rattle.bpf_insn.specs.declared.operand.ByteOrder.{ByteOrder}
use Rattle.bpf_insn.specs.declared.operand.Condition.{Condition}
use Rattle.bpf_insn.specs.declared.operand.EndSize.{EndSize}
use Rattle.bpf_insn.specs.declared.operand.Extension.{Extension}
use Rattle.bpf_insn.specs.declared.operand.LoadKind.{LoadKind}
use Rattle.bpf_insn.specs.declared.operand.LoadKind.TheVariants.{SignedByte, SignedHalf, SignedWord}
use Rattle.bpf_insn.specs.Program.{◌>>=◌}
use Rattle.bpf_semantics.specs.Memory.{context_size, stack_size}
use Rattle.bpf_semantics.specs.Reads.{load_count}
use Rattle.abs_value.specs.declared.number.Number.{Number}
use Rattle.abs_value.specs.declared.places.Places.{Places}
use Rattle.abs_value.specs.declared.value.Abs.{Abs}
use Rattle.abs_value.specs.declared.origin.Lookup.{Lookup}
use Rattle.abs_value.specs.declared.origin.Origin.{Origin}
use Rattle.abs_value.specs.declared.origin.Origin.TheVariants.{Found, Fixed}
use Rattle.abs_value.specs.declared.value.Abs.TheVariants.{Unusable, Num, Ctx, Stk}
use Rattle.abs_value.specs.declared.value.Abs.TheVariants.{Map, MayCell, Cell}
use Rattle.abs_value.specs.Numbers.{single, is_single, least, most, up_to, full, join_numbers}
use Rattle.abs_value.specs.Results.{alu_number, copied_number, extended_number, reordered_number}
use Rattle.abs_value.specs.Narrowing.{narrowed}

abbrev pub is_unusable : Abs → Bool
is_unusable Unusable = true
is_unusable v = false

abbrev pub is_pointer : Abs → Bool
is_pointer Unusable = false
is_pointer (Num a) = false
is_pointer v = true

abbrev pub is_number : Abs → Bool
is_number (Num a) = true
is_number v = false

-- ---- places: offsets from the start of a region

abbrev pub places : ℕ → ℕ → Places
places lo hi = record { lo = lo; hi = hi }

abbrev pub place_hull : Places → Places → Places
place_hull a b = places (min a.lo b.lo) (max a.hi b.hi)

-- a place is between a region's start and its end
abbrev pub place_in : ℕ → ℤ → Option ℕ
place_in size z = if int_le (pos 0) z && int_le z (pos size) then Some (unsigned_abs z) else None

abbrev pub signed_view : ℕ → ℤ
signed_view n = cast_signed w64 (n % 2 ^ 64)

-- how far a single number moves an address: by its signed view, up or down
abbrev pub distance : AluOp → ℕ → Option ℤ
distance Add n = Some (signed_view n)
distance Sub n = Some (neg_ℤ (signed_view n))
distance op n = None

-- an end of a range counts as unsigned, and can only be added
abbrev pub distance_of_end : AluOp → ℕ → Option ℤ
distance_of_end Add n = Some (pos n)
distance_of_end op n = None

abbrev pub least_distance : AluOp → Number → Option ℤ
least_distance op by =
    if is_single by then distance op (least by) else distance_of_end op (least by)

abbrev pub greatest_distance : AluOp → Number → Option ℤ
greatest_distance op by =
    if is_single by then distance op (most by) else distance_of_end op (most by)

-- none if the place may leave the region
abbrev pub moved : ℕ → ℕ → Option ℤ → Option ℕ
moved size place distance = distance >>= λ z. place_in size (pos place +ℤ z)

-- both ends stay in the context
abbrev pub moved_in_context : AluOp → Places → Number → Option Places
moved_in_context op from by =
    moved context_size from.lo (least_distance op by) >>= λ lo.
    moved context_size from.hi (greatest_distance op by) >>= λ hi.
    Some (places lo hi)

-- only a single number moves a place in the stack
abbrev pub moved_in_stack : AluOp → ℕ → Number → Option ℕ
moved_in_stack op place by =
    if is_single by then moved stack_size place (distance op (least by)) else None

-- 64-bit arithmetic of a pointer and a number; none if the result isn't a pointer
abbrev pub pointer_result : Bits → AluOp → Abs → Abs → Option Abs
pointer_result Bits64 op (Ctx from) (Num by) = option_map Ctx (moved_in_context op from by)
pointer_result Bits64 op (Stk place) (Num by) = option_map Stk (moved_in_stack op place by)
pointer_result bits op a b = None

-- ---- results

abbrev pub or_unusable : Option Abs → Abs
or_unusable None = Unusable
or_unusable (Some v) = v

-- the result of arithmetic
abbrev pub alu_value : Bits → AluOp → Abs → Abs → Abs
alu_value bits op (Num a) (Num b) = Num (alu_number bits op a b)
alu_value bits op a b = or_unusable (pointer_result bits op a b)

-- MOV: for a pointer, only a 64-bit MOV gives a pointer
abbrev pub copied_value : Bits → Abs → Abs
copied_value bits (Num a) = Num (copied_number bits a)
copied_value Bits64 v = v
copied_value Bits32 v = Unusable

-- NEG: 0 minus the number
abbrev pub negated_value : Bits → Abs → Abs
negated_value bits v = alu_value bits Sub (Num (single 0)) v

abbrev pub extended_value : Extension → Abs → Abs
extended_value e (Num a) = Num (extended_number e a)
extended_value e v = Unusable

abbrev pub reordered_value : ByteOrder → EndSize → Abs → Abs
reordered_value order size (Num a) = Num (reordered_number order size a)
reordered_value order size v = Unusable

-- any number of the load's width; a sign-extending load may give any number
abbrev pub loaded_value : LoadKind → Abs
loaded_value SignedByte = Num (full Bits64)
loaded_value SignedHalf = Num (full Bits64)
loaded_value SignedWord = Num (full Bits64)
loaded_value kind = Num (up_to (2 ^ (8 * load_count kind) - 1))

-- ---- two values at a jump, on the edge that jumps or on the fall-through edge

abbrev pub numbers : Number × Number → Abs × Abs
numbers p = (Num p.0, Num p.1)

-- a pointer isn't narrowed
abbrev pub refined : Bits → Condition → Bool → Abs → Abs → Option (Abs × Abs)
refined bits condition jumps (Num a) (Num b) =
    option_map numbers (narrowed bits condition jumps a b)
refined bits condition jumps a b = Some (a, b)

-- ---- cells

-- the same array, and the same call
abbrev pub same_lookup : Lookup → Lookup → Bool
same_lookup a b = (a.array == b.array) && (a.slot == b.slot)

-- the cell that a lookup found
abbrev pub is_found_by : Origin → Lookup → Bool
is_found_by (Found a) b = same_lookup a b
is_found_by (Fixed cell) b = false

abbrev pub same_origin : Origin → Origin → Bool
same_origin (Found a) (Found b) = same_lookup a b
same_origin (Fixed a) (Fixed b) = a == b
same_origin a b = false

-- ---- joins

-- what both sides know
abbrev pub join_values : Abs → Abs → Abs
join_values (Num a) (Num b) = Num (join_numbers a b)
join_values (Ctx a) (Ctx b) = Ctx (place_hull a b)
join_values (Stk a) (Stk b) = if a == b then Stk a else Unusable
join_values (Map a) (Map b) = if a == b then Map a else Unusable
join_values (MayCell a) (MayCell b) = if same_lookup a b then MayCell a else Unusable
join_values (MayCell a) (Cell b) = if is_found_by b a then MayCell a else Unusable
join_values (Cell a) (MayCell b) = if is_found_by a b then MayCell b else Unusable
join_values (Cell a) (Cell b) = if same_origin a b then Cell a else Unusable
join_values a b = Unusable
