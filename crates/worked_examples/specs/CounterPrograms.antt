-- Programs over counters and helpers with runs worked out by hand, and their shapes.
use Rattle.std.specs.Prelude.{◌≡◌, ℕ, ℤ, pos, negsuc, List, [], ◌∷◌, Option, None, Some}
use Rattle.bpf_insn.specs.declared.reg.Reg.TheVariants.{R0, R1, R2, R3, R6, R10}
use Rattle.bpf_insn.specs.declared.operand.AluOp.TheVariants.{Add, And}
use Rattle.bpf_insn.specs.declared.operand.AtomicOp.TheVariants as atomic
use Rattle.bpf_insn.specs.declared.operand.AtomicSize.TheVariants as atomic_size
use Rattle.bpf_insn.specs.declared.operand.Bits.TheVariants.{Bits64, Bits32}
use Rattle.bpf_insn.specs.declared.operand.Condition.TheVariants.{Eq, Ge}
use Rattle.bpf_insn.specs.declared.operand.LoadKind.TheVariants as load
use Rattle.bpf_insn.specs.declared.operand.Operand.TheVariants.{Imm, Register}
use Rattle.bpf_insn.specs.declared.operand.Size.TheVariants as size
use Rattle.bpf_insn.specs.declared.operand.WideValue.TheVariants.{Map, Cell}
use Rattle.bpf_insn.specs.declared.insn.Insn.TheVariants.{Alu, Mov, JumpIf, Call, Exit, Load}
use Rattle.bpf_insn.specs.declared.insn.Insn.TheVariants.{Store, StoreImm, Atomic, Wide}
use Rattle.bpf_insn.specs.Program.{Program, layout}
use Rattle.cells.specs.declared.array.CellArray.{CellArray}
use Rattle.cells.specs.declared.array.CellWidth.{CellWidth}
use Rattle.cells.specs.declared.array.CellWidth.TheVariants as width
use Rattle.cells.specs.declared.event.CellEvent.{CellEvent}
use Rattle.cells.specs.declared.event.CellOp.TheVariants as cell
use Rattle.cells.specs.Events.{event, limit, after, reply_of}
use Rattle.attrs.specs.Attributes.{Attributes}
use Rattle.bpf_semantics.specs.Program.{ShapedProgram}
use Rattle.bpf_semantics.specs.State.{opening}
use Rattle.bpf_semantics.specs.Run.{Ends, Traps}

-- ---- arrays, and events on their counters

abbrev pub array : CellWidth → ℕ → ℕ → Option ℕ → CellArray
array w base count quota =
    record { name = []; width = w; base = base; length = count; quota = quota }

-- a program that uses one array
abbrev pub over : CellArray → Program → ShapedProgram
over a p = record { code = p; shape = record { releases = 2; arrays = a ∷ [] } }

-- four 64-bit counters, one 32-bit counter, and one 64-bit counter with a quota
abbrev pub four_wide : CellArray
four_wide = array width.Bits64 0 4 None

abbrev pub one_wide : CellArray
one_wide = array width.Bits64 0 1 None

abbrev pub one_narrow : CellArray
one_narrow = array width.Bits32 4096 1 None

abbrev pub quota_of_two : CellArray
quota_of_two = array width.Bits64 0 1 (Some 2)

-- ---- lookups

-- ldmap r1, 0 / mov r2, KEY / call 1 / jeq r0, 0, +2 / mov r0, 1 / exit / mov r0, 2 / exit
abbrev pub lookup_program : ℤ → Program
lookup_program key = layout (
    Wide R1 (Map (pos 0)) ∷ Mov Bits64 R2 (Imm key) ∷ Call (pos 1)
    ∷ JumpIf Bits64 Eq R0 (Imm (pos 0)) (pos 2)
    ∷ Mov Bits64 R0 (Imm (pos 1)) ∷ Exit ∷ Mov Bits64 R0 (Imm (pos 2)) ∷ Exit ∷ [])

-- ldmap r1, 0 / mov r2, 4 / call 1 / ldxdw r3, [r0+0] / mov r0, 0 / exit
abbrev pub unchecked_program : Program
unchecked_program = layout (
    Wide R1 (Map (pos 0)) ∷ Mov Bits64 R2 (Imm (pos 4)) ∷ Call (pos 1)
    ∷ Load load.Double R3 R0 (pos 0)
    ∷ Mov Bits64 R0 (Imm (pos 0)) ∷ Exit ∷ [])

-- ldmap r1, 0 / mov r2, 0 / call 1 / mov r6, r0 / jeq r0, 0, +1 / ldxdw r3, [r6+0] / mov r0, 0 /
-- exit
abbrev pub checked_program : Program
checked_program = layout (
    Wide R1 (Map (pos 0)) ∷ Mov Bits64 R2 (Imm (pos 0)) ∷ Call (pos 1) ∷ Mov Bits64 R6 (Register R0)
    ∷ JumpIf Bits64 Eq R0 (Imm (pos 0)) (pos 1) ∷ Load load.Double R3 R6 (pos 0)
    ∷ Mov Bits64 R0 (Imm (pos 0)) ∷ Exit ∷ [])

-- ---- counters

-- ldcell r6, 0, 0 / mov32 r2, -1 / stxw [r6+0], r2 / mov r2, 1 / faddw [r6+0], r2 / mov r0, 0 /
-- mov r3, 5 / cmpxchgw [r6+0], r3 / and r0, 1 / exit
abbrev pub narrow_program : Program
narrow_program = layout (
    Wide R6 (Cell (pos 0) (pos 0)) ∷ Mov Bits32 R2 (Imm (negsuc 0)) ∷ Store size.Word R6 R2 (pos 0)
    ∷ Mov Bits64 R2 (Imm (pos 1)) ∷ Atomic atomic.FetchAdd atomic_size.Word R6 R2 (pos 0)
    ∷ Mov Bits64 R0 (Imm (pos 0))
    ∷ Mov Bits64 R3 (Imm (pos 5)) ∷ Atomic atomic.CompareExchange atomic_size.Word R6 R3 (pos 0)
    ∷ Alu Bits64 And R0 (Imm (pos 1)) ∷ Exit ∷ [])

-- the same up to faddw, followed by mov r0, r2 / exit
abbrev pub fetched_program : Program
fetched_program = layout (
    Wide R6 (Cell (pos 0) (pos 0)) ∷ Mov Bits32 R2 (Imm (negsuc 0)) ∷ Store size.Word R6 R2 (pos 0)
    ∷ Mov Bits64 R2 (Imm (pos 1)) ∷ Atomic atomic.FetchAdd atomic_size.Word R6 R2 (pos 0)
    ∷ Mov Bits64 R0 (Register R2) ∷ Exit ∷ [])

-- the events of the first on a counter that is 0 at first: a store, an addition, an exchange
abbrev pub narrow_events : List CellEvent
narrow_events =
    event 4096 (cell.Store 0xFFFFFFFF) 0 ∷ event 4096 (cell.Add 1) 0xFFFFFFFF
    ∷ event 4096 (cell.CompareExchange 0 5) 0 ∷ []

abbrev pub fetched_events : List CellEvent
fetched_events = event 4096 (cell.Store 0xFFFFFFFF) 0 ∷ event 4096 (cell.Add 1) 0xFFFFFFFF ∷ []

-- ldcell r6, 0, 0 / mov r2, 1 / fadddw [r6+0], r2 / jge r2, 2, +2 / mov r0, 1 / exit / mov r0, 0 /
-- exit
abbrev pub take_program : Program
take_program = layout (
    Wide R6 (Cell (pos 0) (pos 0)) ∷ Mov Bits64 R2 (Imm (pos 1))
    ∷ Atomic atomic.FetchAdd atomic_size.Double R6 R2 (pos 0)
    ∷ JumpIf Bits64 Ge R2 (Imm (pos 2)) (pos 2) ∷ Mov Bits64 R0 (Imm (pos 1)) ∷ Exit
    ∷ Mov Bits64 R0 (Imm (pos 0)) ∷ Exit ∷ [])

-- ldcell r6, 0, 0 / mov r2, -1 / stxw [r6+0], r2 / aaddw [r6+0], r2 / mov r0, 0 / exit
abbrev pub uncut_program : Program
uncut_program = layout (
    Wide R6 (Cell (pos 0) (pos 0)) ∷ Mov Bits64 R2 (Imm (negsuc 0))
    ∷ Store size.Word R6 R2 (pos 0) ∷ Atomic atomic.Add atomic_size.Word R6 R2 (pos 0)
    ∷ Mov Bits64 R0 (Imm (pos 0)) ∷ Exit ∷ [])

-- its events, with this reply to the addition
abbrev pub cut_events : ℕ → List CellEvent
cut_events reply =
    event 4096 (cell.Store 0xFFFFFFFF) 0 ∷ event 4096 (cell.Add 0xFFFFFFFF) reply ∷ []

-- ---- helpers

-- stb [r10-8], 49 / mov r1, 1 / mov r2, r10 / add r2, -8 / mov r3, 1 / call 2 / exit
abbrev pub version_is_program : Program
version_is_program = layout (
    StoreImm size.Byte R10 (negsuc 7) (pos 49) ∷ Mov Bits64 R1 (Imm (pos 1))
    ∷ Mov Bits64 R2 (Register R10)
    ∷ Alu Bits64 Add R2 (Imm (negsuc 7)) ∷ Mov Bits64 R3 (Imm (pos 1)) ∷ Call (pos 2) ∷ Exit ∷ [])

-- ---- statements about the programs

-- from the opening state, for all attributes
abbrev pub EndsOver : CellArray → Program → List CellEvent → ℕ → ℕ → Type 0
EndsOver a p es choice count = (b : Attributes) → Ends (over a p) (opening b) es choice count

abbrev pub TrapsOver : CellArray → Program → ℕ → Type 0
TrapsOver a p count = (b : Attributes) → Traps (over a p) (opening b) [] count

-- the events' replies follow from the counter's first value v, and the values after each event are
-- these
abbrev pub AreValues : ℕ → List CellEvent → List ℕ → Type 0
AreValues v [] [] = Unit {0}
AreValues v (e ∷ es) (w ∷ ws) =
    (e.reply ≡ reply_of v e.op) × (after (limit e.cell) v e.op ≡ w) × AreValues w es ws
AreValues v es ws = ⊥
