-- Programs over counters and helpers with an undefined step.
use Rattle.std.specs.Prelude.{ℕ, ℤ, pos, negsuc, List, [], ◌∷◌}
use Rattle.bpf_insn.specs.declared.reg.Reg.{Reg}
use Rattle.bpf_insn.specs.declared.reg.Reg.TheVariants.{R1, R2, R3, R6, R10}
use Rattle.bpf_insn.specs.declared.operand.AluOp.TheVariants.{Add}
use Rattle.bpf_insn.specs.declared.operand.AtomicOp.{AtomicOp}
use Rattle.bpf_insn.specs.declared.operand.AtomicSize.{AtomicSize}
use Rattle.bpf_insn.specs.declared.operand.Bits.TheVariants.{Bits64}
use Rattle.bpf_insn.specs.declared.operand.Operand.TheVariants.{Imm, Register}
use Rattle.bpf_insn.specs.declared.operand.Size.TheVariants as size
use Rattle.bpf_insn.specs.declared.operand.WideValue.TheVariants.{Number, Map, Cell}
use Rattle.bpf_insn.specs.declared.insn.Insn.{Insn}
use Rattle.bpf_insn.specs.declared.insn.Insn.TheVariants.{Alu, Mov, Call, StoreImm, Atomic, Wide}
use Rattle.bpf_insn.specs.Program.{Program, layout}

-- ldcell r6, 0, 0 / mov r2, 1, followed by these
abbrev pub on_cell : List Insn → Program
on_cell rest = layout (Wide R6 (Cell (pos 0) (pos 0)) ∷ Mov Bits64 R2 (Imm (pos 1)) ∷ rest)

-- lddw r6, ADDRESS / mov r2, 1, followed by these
abbrev pub on_address : ℕ → List Insn → Program
on_address address rest = layout (Wide R6 (Number address) ∷ Mov Bits64 R2 (Imm (pos 1)) ∷ rest)

-- mov r2, 1 / OP [base+offset], r2
abbrev pub atomic_program : AtomicOp → AtomicSize → Reg → ℤ → Program
atomic_program op width base offset =
    layout (Mov Bits64 R2 (Imm (pos 1)) ∷ Atomic op width base R2 offset ∷ [])

-- ---- helpers

-- mov r1, MAP / mov r2, 0 / call 1
abbrev pub missing_map_program : ℤ → Program
missing_map_program map =
    layout (Mov Bits64 R1 (Imm map) ∷ Mov Bits64 R2 (Imm (pos 0)) ∷ Call (pos 1) ∷ [])

-- ldmap r1, 0 / call 1
abbrev pub no_key_program : Program
no_key_program = layout (Wide R1 (Map (pos 0)) ∷ Call (pos 1) ∷ [])

-- stb [r10-8], 0 / mov r1, 1 / mov r2, r10 / add r2, PLACE / mov r3, COUNT / call 2
abbrev pub compare_program : ℤ → ℤ → Program
compare_program place count = layout (
    StoreImm size.Byte R10 (negsuc 7) (pos 0) ∷ Mov Bits64 R1 (Imm (pos 1))
    ∷ Mov Bits64 R2 (Register R10)
    ∷ Alu Bits64 Add R2 (Imm place) ∷ Mov Bits64 R3 (Imm count) ∷ Call (pos 2) ∷ [])

-- call 3, which leaves R1 to R5 unset, followed by these
abbrev pub after_call : List Insn → Program
after_call rest = layout (Call (pos 3) ∷ rest)

-- mov r1, 1 / call HELPER / call HELPER
abbrev pub two_calls : ℤ → Program
two_calls helper = layout (Mov Bits64 R1 (Imm (pos 1)) ∷ Call helper ∷ Call helper ∷ [])
