-- The calls whose results an entry names are before its slot.
use Rattle.std.specs.Prelude.{◌≡◌, ℕ, ◌<◌, ℤ, Option, Some, IfSome, Bool}
use Rattle.bpf_insn.specs.declared.insn.Insn.{Insn}
use Rattle.bpf_insn.specs.declared.operand.AluOp.{AluOp}
use Rattle.bpf_insn.specs.declared.operand.Bits.{Bits}
use Rattle.bpf_insn.specs.declared.operand.ByteOrder.{ByteOrder}
use Rattle.bpf_insn.specs.declared.operand.Condition.{Condition}
use Rattle.bpf_insn.specs.declared.operand.EndSize.{EndSize}
use Rattle.bpf_insn.specs.declared.operand.Extension.{Extension}
use Rattle.bpf_insn.specs.declared.operand.LoadKind.{LoadKind}
use Rattle.bpf_insn.specs.declared.operand.Operand.{Operand}
use Rattle.bpf_insn.specs.declared.operand.WideValue.{WideValue}
use Rattle.bpf_insn.specs.declared.reg.Reg.{Reg}
use Rattle.cells.specs.Arrays.{AppShape}
use Rattle.bpf_semantics.specs.Program.{ShapedProgram}
use Rattle.bpf_semantics.specs.State.{State}
use Rattle.abs_value.specs.declared.origin.Origin.TheVariants.{Found}
use Rattle.abs_value.specs.declared.slot.AbsSlot.{AbsSlot}
use Rattle.abs_value.specs.declared.slot.AbsSlot.TheVariants.{Kept, Bytes}
use Rattle.abs_value.specs.declared.state.AbsState.{AbsState}
use Rattle.abs_value.specs.declared.value.Abs.{Abs}
use Rattle.abs_value.specs.declared.value.Abs.TheVariants.{MayCell, Cell}
use Rattle.abs_value.specs.Values.{or_unusable, alu_value, copied_value, negated_value}
use Rattle.abs_value.specs.Values.{extended_value, reordered_value, loaded_value}
use Rattle.abs_value.specs.Stack.{slot_at, loaded_from}
use Rattle.abs_value.specs.States.{value_at, operand_value, with_value, with_stored}
use Rattle.abs_value.specs.States.{opening_state, join_states}
use Rattle.abs_value.specs.Lookups.{refined_state, called}
use Rattle.abs_value.specs.Covers.{Covers, IsRepresented}
use Rattle.bpf_checks.specs.Arrays.{wide_abs}
use Rattle.bpf_checks.specs.Transfer.{jumping, going_on}
use Rattle.bpf_verify.specs.Accepted.{entry_of}

-- ---- abstract values

-- if the value is a lookup's result, the call is before the slot
abbrev pub LooksBack : ℕ → Abs → Type 0
LooksBack s (MayCell call) = call.slot < s
LooksBack s (Cell (Found call)) = call.slot < s
LooksBack s v = Unit {0}

abbrev pub SlotLooksBack : ℕ → AbsSlot → Type 0
SlotLooksBack s (Kept v) = LooksBack s v
SlotLooksBack s (Bytes mask) = Unit {0}

-- also for each value in a register or a stack slot
pub record StateLooksBack (s : ℕ) (e : AbsState) : Type 0 where
  pub registers : (r : ℕ) → LooksBack s (value_at e r)
  pub stack : (i : ℕ) → SlotLooksBack s (slot_at e.stack i)

-- ---- computed values

-- true for each slot, so the value isn't a lookup's result
abbrev pub OfNoLookup : Abs → Type 0
OfNoLookup v = (s : ℕ) → LooksBack s v

abbrev pub ResultsNameNone : Type 0
ResultsNameNone = (bits : Bits) (op : AluOp) (a b : Abs) → OfNoLookup (alu_value bits op a b)

abbrev pub NegationsNameNone : Type 0
NegationsNameNone = (bits : Bits) (a : Abs) → OfNoLookup (negated_value bits a)

abbrev pub ExtensionsNameNone : Type 0
ExtensionsNameNone = (e : Extension) (a : Abs) → OfNoLookup (extended_value e a)

abbrev pub ReorderingsNameNone : Type 0
ReorderingsNameNone =
    (order : ByteOrder) (size : EndSize) (a : Abs) → OfNoLookup (reordered_value order size a)

abbrev pub LoadedNameNone : Type 0
LoadedNameNone = (kind : LoadKind) → OfNoLookup (loaded_value kind)

abbrev pub WideNameNone : Type 0
WideNameNone =
    (shape : AppShape) (value : WideValue) → OfNoLookup (or_unusable (wide_abs shape value))

-- a copy of a lookup's result is that result
abbrev pub CopiesLookBack : Type 0
CopiesLookBack = (s : ℕ) (bits : Bits) (a : Abs) → LooksBack s a → LooksBack s (copied_value bits a)

-- ---- states

abbrev pub OpeningLooksBack : Type 0
OpeningLooksBack = (s : ℕ) → StateLooksBack s opening_state

abbrev pub OperandsLookBack : Type 0
OperandsLookBack =
    (s : ℕ) (e : AbsState) (bits : Bits) (src : Operand)
    → StateLooksBack s e → LooksBack s (operand_value e bits src)

abbrev pub WritesLookBack : Type 0
WritesLookBack =
    (s : ℕ) (e : AbsState) (r : Reg) (v : Abs)
    → StateLooksBack s e → LooksBack s v → StateLooksBack s (with_value e r v)

abbrev pub StoresLookBack : Type 0
StoresLookBack =
    (s : ℕ) (e : AbsState) (place n : ℕ) (v : Abs)
    → StateLooksBack s e → LooksBack s v → StateLooksBack s (with_stored e place n v)

abbrev pub LoadsLookBack : Type 0
LoadsLookBack =
    (s : ℕ) (e : AbsState) (place : ℕ) (kind : LoadKind)
    → StateLooksBack s e → LooksBack s (loaded_from e.stack place kind)

abbrev pub JoinsLookBack : Type 0
JoinsLookBack =
    (s : ℕ) (e f : AbsState)
    → StateLooksBack s e → StateLooksBack s f → StateLooksBack s (join_states e f)

-- on both edges of a comparison, also of a lookup's result with 0
abbrev pub RefinedLooksBack : Type 0
RefinedLooksBack =
    (s : ℕ) (e : AbsState) (bits : Bits) (condition : Condition)
    (left : Reg) (right : Operand) (jumps : Bool) → StateLooksBack s e
    → IfSome (refined_state e bits condition left right jumps) (StateLooksBack s)

-- after a call before the slot: its own result, if it is a lookup
abbrev pub CallsLookBack : Type 0
CallsLookBack =
    (s call : ℕ) (e : AbsState) (helper : ℤ)
    → call < s → StateLooksBack s e → StateLooksBack s (called e helper call)

-- ---- edges and entries

-- on the edge that jumps
abbrev pub JumpingLooksBack : Type 0
JumpingLooksBack =
    (s : ℕ) (e : AbsState) (i : Insn)
    → StateLooksBack s e → IfSome (jumping e i) (StateLooksBack s)

-- on the fall-through edge of a slot before s
abbrev pub GoingOnLooksBack : Type 0
GoingOnLooksBack =
    (s place : ℕ) (shape : AppShape) (e : AbsState) (i : Insn)
    → place < s → StateLooksBack s e → IfSome (going_on shape place e i) (StateLooksBack s)

-- the entry of a slot names only lookups before it, wherever the program's jumps lead
abbrev pub EntriesLookBack : Type 0
EntriesLookBack =
    (p : ShapedProgram) (s : ℕ) (e : AbsState) → entry_of p s ≡ Some e → StateLooksBack s e

-- so if an entry covers a state for any results, those of the calls before it suffice
abbrev pub CoversAreBefore : Type 0
CoversAreBefore =
    (p : ShapedProgram) (s : State) (e : AbsState) (by : ℕ → Option ℕ)
    → entry_of p s.slot ≡ Some e → Covers (record { shape = p.shape; by = by }) e s
    → IsRepresented p.shape e s
