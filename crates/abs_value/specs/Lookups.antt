-- Lookups and calls. A comparison with 0 (64-bit JEQ or JNE with imm 0) decides whether a lookup
-- found a cell. A CALL sets R0 and makes R1 to R5 unset (RFC 9669, "Jump Instructions" and "Helper
-- Functions").
use Rattle.std.specs.Prelude.{◌≡◌, ℕ, ℤ, pos, List, ◌∷◌, drop, map}
use Rattle.std.specs.Prelude.{Option, Some, None, option_map}
use Rattle.std.specs.Prelude.{Bool, true, false, ◌&&◌, not, ◌==◌, if◌then◌else◌}
use Rattle.bpf_insn.specs.declared.reg.Reg.{Reg}
use Rattle.bpf_insn.specs.declared.operand.Bits.{Bits}
use Rattle.bpf_insn.specs.declared.operand.Bits.TheVariants.{Bits64}
use Rattle.bpf_insn.specs.declared.operand.Condition.{Condition}
use Rattle.bpf_insn.specs.declared.operand.Condition.TheVariants.{Eq, Ne}
use Rattle.bpf_insn.specs.declared.operand.Operand.{Operand}
use Rattle.bpf_insn.specs.declared.operand.Operand.TheVariants.{Imm, Register}
use Rattle.bpf_insn.specs.Table.{number_of}
use Rattle.bpf_semantics.specs.declared.helpers.Prototype.{Prototype}
use Rattle.bpf_semantics.specs.declared.helpers.Prototype.TheVariants.{OfMap, OfText, OfNumber}
use Rattle.bpf_semantics.specs.Helpers.{called_prototype}
use Rattle.abs_value.specs.declared.origin.Lookup.{Lookup}
use Rattle.abs_value.specs.declared.origin.Origin.TheVariants.{Found}
use Rattle.abs_value.specs.declared.value.Abs.{Abs}
use Rattle.abs_value.specs.declared.value.Abs.TheVariants.{Unusable, Num, Map, MayCell, Cell}
use Rattle.abs_value.specs.declared.slot.AbsSlot.{AbsSlot}
use Rattle.abs_value.specs.declared.slot.AbsSlot.TheVariants.{Kept, Bytes}
use Rattle.abs_value.specs.declared.state.AbsState.{AbsState}
use Rattle.abs_value.specs.Numbers.{single, up_to}
use Rattle.abs_value.specs.Values.{is_pointer, refined}
use Rattle.abs_value.specs.States.{value_at, value_of, operand_value, with_value, with_operand}

-- ---- a lookup's result, once it is known: 0, or the address of a cell

abbrev pub answer_of : Lookup → Bool → Abs
answer_of lookup true = Cell (Found lookup)
answer_of lookup false = Num (single 0)

-- the value v of a lookup, once the result of the call is known
abbrev pub learnt_answer : ℕ → Bool → Lookup → Abs → Abs
learnt_answer call found lookup v =
    if lookup.slot == call then answer_of lookup found else v

-- a value once the result of the call is known: each copy of it changes
abbrev pub with_answer : ℕ → Bool → Abs → Abs
with_answer call found (MayCell lookup) = learnt_answer call found lookup (MayCell lookup)
with_answer call found (Cell (Found lookup)) =
    learnt_answer call found lookup (Cell (Found lookup))
with_answer call found v = v

abbrev pub slot_with_answer : ℕ → Bool → AbsSlot → AbsSlot
slot_with_answer call found (Kept v) = Kept (with_answer call found v)
slot_with_answer call found (Bytes mask) = Bytes mask

-- in each register, and in each slot that keeps a value
abbrev pub state_with_answer : AbsState → ℕ → Bool → AbsState
state_with_answer e call found = record {
  registers = map (with_answer call found) e.registers;
  stack = map (slot_with_answer call found) e.stack;
}

-- ---- an edge of a conditional jump

-- a 64-bit comparison with 0
abbrev pub compares_with_zero : Bits → Condition → Operand → Bool
compares_with_zero Bits64 Eq (Imm (pos n)) = n == 0
compares_with_zero Bits64 Ne (Imm (pos n)) = n == 0
compares_with_zero bits condition right = false

-- the left operand isn't 0 on this edge
abbrev pub is_found : Condition → Bool → Bool
is_found Eq jumps = not jumps
is_found condition jumps = jumps

-- after a pointer is compared with 0: a lookup's result becomes known, and a cell's address isn't 0
abbrev pub after_null_check : AbsState → Abs → Bool → Option AbsState
after_null_check e (MayCell lookup) found = Some (state_with_answer e lookup.slot found)
after_null_check e (Cell origin) found = if found then Some e else None
after_null_check e v found = Some e

-- both narrowed values are written back
abbrev pub with_both : AbsState → Reg → Operand → Abs × Abs → AbsState
with_both e left right p = with_operand (with_value e left p.0) right p.1

abbrev pub after_comparison : AbsState → Bits → Condition → Reg → Operand → Bool → Option AbsState
after_comparison e bits condition left right jumps =
    option_map (with_both e left right)
    (refined bits condition jumps (value_of e left) (operand_value e bits right))

abbrev pub is_register : Operand → Reg → Bool
is_register (Imm k) r = false
is_register (Register q) r = number_of q == number_of r

-- the state on an edge; none if no run takes it. A comparison of a register with itself narrows
-- nothing
abbrev pub refined_state : AbsState → Bits → Condition → Reg → Operand → Bool → Option AbsState
refined_state e bits condition left right jumps =
    if is_register right left then Some e
    else if compares_with_zero bits condition right && is_pointer (value_of e left)
    then after_null_check e (value_of e left) (is_found condition jumps)
    else after_comparison e bits condition left right jumps

-- f is the narrowed state if a run may take the edge; otherwise it is unchanged
abbrev pub IsEdge : Bool → Option AbsState → AbsState → AbsState → Type 0
IsEdge true o e f = o ≡ Some f
IsEdge false o e f = (o ≡ None) × (f ≡ e)

-- ---- calls

abbrev pub lookup : ℕ → ℕ → Lookup
lookup array slot = record { array = array; slot = slot }

-- a lookup uses the array that R1 names
abbrev pub lookup_value : ℕ → Abs → Abs
lookup_value slot (Map array) = MayCell (lookup array slot)
lookup_value slot v = Unusable

-- R0 after a call: by the helper's prototype, the slot of the CALL and the value of R1
abbrev pub value_given : Option Prototype → ℕ → Abs → Abs
value_given None slot v = Unusable
value_given (Some OfMap) slot v = lookup_value slot v
value_given (Some OfText) slot v = Num (up_to 1)
value_given (Some (OfNumber most)) slot v = Num (up_to most)

abbrev pub call_value : ℤ → ℕ → Abs → Abs
call_value helper slot v = value_given (called_prototype helper) slot v

-- R1 to R5 are unset, and the other registers are unchanged
abbrev pub called_registers : List Abs → Abs → List Abs
called_registers registers v =
    v ∷ Unusable ∷ Unusable ∷ Unusable ∷ Unusable ∷ Unusable ∷ drop 6 registers

-- the state after a CALL
abbrev pub called : AbsState → ℤ → ℕ → AbsState
called e helper slot =
    record e { registers = called_registers e.registers (call_value helper slot (value_at e 1)) }
