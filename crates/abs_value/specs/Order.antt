-- Laws about the ends of intervals: if they are in order, they stay in order.
use Rattle.std.specs.Prelude.{ℕ, ◌≤◌, ℤ, Option, Some, None, Bool, IfSome}
use Rattle.bpf_insn.specs.declared.operand.AluOp.{AluOp}
use Rattle.bpf_insn.specs.declared.operand.Bits.{Bits}
use Rattle.bpf_insn.specs.declared.operand.ByteOrder.{ByteOrder}
use Rattle.bpf_insn.specs.declared.operand.Condition.{Condition}
use Rattle.bpf_insn.specs.declared.operand.EndSize.{EndSize}
use Rattle.bpf_insn.specs.declared.operand.Extension.{Extension}
use Rattle.bpf_insn.specs.declared.operand.LoadKind.{LoadKind}
use Rattle.bpf_insn.specs.declared.operand.Operand.{Operand}
use Rattle.bpf_insn.specs.declared.reg.Reg.{Reg}
use Rattle.abs_value.specs.declared.value.Abs.{Abs}
use Rattle.abs_value.specs.declared.value.Abs.TheVariants.{Num, Ctx}
use Rattle.abs_value.specs.declared.slot.AbsSlot.{AbsSlot}
use Rattle.abs_value.specs.declared.slot.AbsSlot.TheVariants.{Kept, Bytes}
use Rattle.abs_value.specs.declared.state.AbsState.{AbsState}
use Rattle.abs_value.specs.Intervals.{IsRange}
use Rattle.abs_value.specs.Values.{alu_value, copied_value, negated_value}
use Rattle.abs_value.specs.Values.{extended_value, reordered_value, loaded_value, refined}
use Rattle.abs_value.specs.Values.{join_values}
use Rattle.abs_value.specs.Stack.{slot_at, loaded_from}
use Rattle.abs_value.specs.States.{value_at, operand_value, with_value, with_stored}
use Rattle.abs_value.specs.States.{opening_state, join_states}
use Rattle.abs_value.specs.Lookups.{with_answer, refined_state, call_value, called}

-- ---- values

abbrev pub HasOrderedEnds : Abs → Type 0
HasOrderedEnds (Num a) = IsRange a.range
HasOrderedEnds (Ctx from) = from.lo ≤ from.hi
HasOrderedEnds v = Unit {0}

abbrev pub AreInOrder : Option (Abs × Abs) → Type 0
AreInOrder None = Unit {0}
AreInOrder (Some p) = HasOrderedEnds p.0 × HasOrderedEnds p.1

abbrev pub KeepsOrder : (Abs → Abs) → Type 0
KeepsOrder f = (a : Abs) → HasOrderedEnds a → HasOrderedEnds (f a)

abbrev pub KeepsBothInOrder : (Abs → Abs → Abs) → Type 0
KeepsBothInOrder f = (a b : Abs) → HasOrderedEnds a → HasOrderedEnds b → HasOrderedEnds (f a b)

abbrev pub ResultsInOrder : Type 0
ResultsInOrder = (bits : Bits) (op : AluOp) → KeepsBothInOrder (alu_value bits op)

abbrev pub CopiesInOrder : Type 0
CopiesInOrder = (bits : Bits) → KeepsOrder (copied_value bits)

abbrev pub NegationsInOrder : Type 0
NegationsInOrder = (bits : Bits) → KeepsOrder (negated_value bits)

abbrev pub ExtensionsInOrder : Type 0
ExtensionsInOrder = (e : Extension) → KeepsOrder (extended_value e)

abbrev pub ReorderingsInOrder : Type 0
ReorderingsInOrder =
    (order : ByteOrder) (size : EndSize) → KeepsOrder (reordered_value order size)

abbrev pub LoadedInOrder : Type 0
LoadedInOrder = (kind : LoadKind) → HasOrderedEnds (loaded_value kind)

-- the narrowed values on an edge
abbrev pub EdgesInOrder : Type 0
EdgesInOrder =
    (bits : Bits) (condition : Condition) (jumps : Bool) (a b : Abs) → HasOrderedEnds a
    → HasOrderedEnds b
    → AreInOrder (refined bits condition jumps a b)

abbrev pub JoinsInOrder : Type 0
JoinsInOrder = KeepsBothInOrder join_values

abbrev pub AnswersInOrder : Type 0
AnswersInOrder = (call : ℕ) (found : Bool) → KeepsOrder (with_answer call found)

abbrev pub CallsInOrder : Type 0
CallsInOrder = (helper : ℤ) (slot : ℕ) (v : Abs) → HasOrderedEnds (call_value helper slot v)

-- ---- states

abbrev pub IsSlotInOrder : AbsSlot → Type 0
IsSlotInOrder (Kept v) = HasOrderedEnds v
IsSlotInOrder (Bytes mask) = Unit {0}

-- the ends of each value in a register or a stack slot are in order
pub record IsStateInOrder (e : AbsState) : Type 0 where
  pub registers : (r : ℕ) → HasOrderedEnds (value_at e r)
  pub stack : (i : ℕ) → IsSlotInOrder (slot_at e.stack i)

abbrev pub OpeningInOrder : Type 0
OpeningInOrder = IsStateInOrder opening_state

abbrev pub OperandsInOrder : Type 0
OperandsInOrder =
    (e : AbsState) (bits : Bits) (src : Operand)
    → IsStateInOrder e → HasOrderedEnds (operand_value e bits src)

abbrev pub WritesInOrder : Type 0
WritesInOrder =
    (e : AbsState) (r : Reg) (v : Abs)
    → IsStateInOrder e → HasOrderedEnds v → IsStateInOrder (with_value e r v)

abbrev pub StoresInOrder : Type 0
StoresInOrder =
    (e : AbsState) (place n : ℕ) (v : Abs)
    → IsStateInOrder e → HasOrderedEnds v → IsStateInOrder (with_stored e place n v)

abbrev pub LoadsInOrder : Type 0
LoadsInOrder =
    (e : AbsState) (place : ℕ) (kind : LoadKind)
    → IsStateInOrder e → HasOrderedEnds (loaded_from e.stack place kind)

abbrev pub StateJoinsInOrder : Type 0
StateJoinsInOrder =
    (e f : AbsState)
    → IsStateInOrder e → IsStateInOrder f → IsStateInOrder (join_states e f)

abbrev pub RefinedInOrder : Type 0
RefinedInOrder =
    (e : AbsState) (bits : Bits) (condition : Condition)
    (left : Reg) (right : Operand) (jumps : Bool) → IsStateInOrder e
    → IfSome (refined_state e bits condition left right jumps) IsStateInOrder

abbrev pub CalledInOrder : Type 0
CalledInOrder =
    (e : AbsState) (helper : ℤ) (slot : ℕ)
    → IsStateInOrder e → IsStateInOrder (called e helper slot)
