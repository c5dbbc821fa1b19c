-- The region of the bytes of an access, and what is allowed there.
use Rattle.std.specs.Prelude.{ℕ, ◌+◌, ◌*◌, ℤ, pos, negsuc, ◌+ℤ◌, unsigned_abs, int_le, min}
use Rattle.std.specs.Prelude.{Option, Some, None, Bool, true, false, ◌&&◌, not, ◌==◌, if◌then◌else◌}
use Rattle.bpf_insn.specs.declared.insn.Insn.{Insn}
use Rattle.bpf_semantics.specs.Memory.{context_size, stack_size}
use Rattle.cells.specs.Arrays.{AppShape}
use Rattle.abs_value.specs.declared.origin.Origin.{Origin}
use Rattle.abs_value.specs.declared.value.Abs.{Abs}
use Rattle.abs_value.specs.declared.value.Abs.TheVariants.{Num, Ctx, Stk, Map, MayCell, Cell}
use Rattle.abs_value.specs.declared.state.AbsState.{AbsState}
use Rattle.abs_value.specs.Numbers.{is_single, least}
use Rattle.abs_value.specs.Stack.{has_unset, is_whole_slot}
use Rattle.abs_value.specs.States.{value_of}
use Rattle.bpf_checks.specs.declared.access.Use.{Use}
use Rattle.bpf_checks.specs.declared.access.Use.TheVariants.{Extends, Stores, Exchanges}
use Rattle.bpf_checks.specs.declared.access.Access.{Access}
use Rattle.bpf_checks.specs.Arrays.{origin_bits, has_quota}
use Rattle.bpf_checks.specs.Reads.{access}

-- a test of an instruction's access, and of the value of its base register
abbrev pub test_access : AbsState → (Access → Abs → Bool) → Option Access → Bool
test_access e test None = false
test_access e test (Some a) = test a (value_of e a.base)

abbrev pub accesses : (Access → Abs → Bool) → AbsState → Insn → Bool
accesses test e i = test_access e test (access i)

-- ---- bounds

-- n bytes from each place, moved by an offset, are in a region of this size
abbrev pub lies_in : ℕ → ℕ → ℕ → ℤ → ℕ → Bool
lies_in size lo hi offset n =
    int_le (pos 0) (pos lo +ℤ offset) && int_le (pos (hi + n) +ℤ offset) (pos size)

abbrev pub is_zero : ℤ → Bool
is_zero (pos n) = n == 0
is_zero (negsuc n) = false

abbrev pub extends_sign : Use → Bool
extends_sign Extends = true
extends_sign how = false

-- a whole cell, at its own address and with its own width, not sign-extended
abbrev pub is_whole_cell : AppShape → Access → Origin → Bool
is_whole_cell shape a origin =
    is_zero a.offset && (8 * a.count == origin_bits shape origin) && not (extends_sign a.how)

-- a byte may be outside the region, or the access isn't to a whole cell
abbrev pub is_outside : AppShape → Access → Abs → Bool
is_outside shape a (Ctx from) = not (lies_in context_size from.lo from.hi a.offset a.count)
is_outside shape a (Stk place) = not (lies_in stack_size place place a.offset a.count)
is_outside shape a (Cell origin) = not (is_whole_cell shape a origin)
is_outside shape a v = false

-- ---- the value that is used as an address

abbrev pub changes : Use → Bool
changes Stores = true
changes Exchanges = true
changes how = false

abbrev pub changes_context : Access → Abs → Bool
changes_context a (Ctx from) = changes a.how
changes_context a v = false

-- the value may not be an address
abbrev pub is_no_address : Access → Abs → Bool
is_no_address a (Num n) = true
is_no_address a (Map index) = true
is_no_address a (MayCell call) = true
is_no_address a v = false

abbrev pub is_atomic : Use → Bool
is_atomic Exchanges = true
is_atomic how = false

abbrev pub exchanges_stack : Access → Abs → Bool
exchanges_stack a (Stk place) = is_atomic a.how
exchanges_stack a v = false

abbrev pub reaches_quota : AppShape → Access → Abs → Bool
reaches_quota shape a (Cell origin) = has_quota shape origin
reaches_quota shape a v = false

-- ---- the stack

-- the offset of n bytes in the stack, from its start
abbrev pub stack_place : Abs → ℤ → ℕ → Option ℕ
stack_place (Stk place) offset n =
    if lies_in stack_size place place offset n then Some (unsigned_abs (pos place +ℤ offset))
    else None
stack_place v offset n = None

-- the bytes are a whole slot, which can keep a value
abbrev pub is_slot : Option ℕ → ℕ → Bool
is_slot None n = false
is_slot (Some place) n = is_whole_slot place n

-- any of n bytes from an address is in the stack and unset
abbrev pub meets_unset : AbsState → Abs → ℤ → ℕ → Bool
meets_unset e (Stk place) offset n = has_unset e.stack (pos place +ℤ offset) n
meets_unset e v offset n = false

-- the bytes of a text: as many as a single length says, and at most those of the stack
abbrev pub text_unset : AbsState → Abs → Abs → Bool
text_unset e address (Num n) =
    if is_single n then meets_unset e address (pos 0) (min (least n) stack_size) else false
text_unset e address v = false
