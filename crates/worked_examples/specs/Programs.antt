-- Programs of arithmetic and jumps, with runs worked out by hand.
use Rattle.std.specs.Prelude.{[], ◌∷◌, pos, negsuc}
use Rattle.bpf_insn.specs.declared.reg.Reg.TheVariants.{R0, R2}
use Rattle.bpf_insn.specs.declared.operand.AluOp.TheVariants.{Add, And, Lsh, Rsh}
use Rattle.bpf_insn.specs.declared.operand.Bits.TheVariants.{Bits64, Bits32}
use Rattle.bpf_insn.specs.declared.operand.ByteOrder.TheVariants.{Big}
use Rattle.bpf_insn.specs.declared.operand.Condition.TheVariants.{Eq, Gt, Sgt}
use Rattle.bpf_insn.specs.declared.operand.Distance.TheVariants.{Short, Long}
use Rattle.bpf_insn.specs.declared.operand.EndSize.TheVariants.{Half}
use Rattle.bpf_insn.specs.declared.operand.Extension.TheVariants.{Byte64, Byte32}
use Rattle.bpf_insn.specs.declared.operand.Operand.TheVariants.{Imm, Register}
use Rattle.bpf_insn.specs.declared.operand.WideValue.TheVariants.{Number}
use Rattle.bpf_insn.specs.declared.insn.Insn.TheVariants.{Alu, Mov, MovSx, Neg, End}
use Rattle.bpf_insn.specs.declared.insn.Insn.TheVariants.{Jump, JumpIf, Exit, Wide}
use Rattle.bpf_insn.specs.Program.{Program, layout}

-- mov r0, 0 / exit
abbrev pub none_program : Program
none_program = layout (Mov Bits64 R0 (Imm (pos 0)) ∷ Exit ∷ [])

-- mov r0, 3 / exit
abbrev pub third_program : Program
third_program = layout (Mov Bits64 R0 (Imm (pos 3)) ∷ Exit ∷ [])

-- mov r0, -1 / add32 r0, 1 / exit
abbrev pub wrapping_program : Program
wrapping_program =
    layout (Mov Bits64 R0 (Imm (negsuc 0)) ∷ Alu Bits32 Add R0 (Imm (pos 1)) ∷ Exit ∷ [])

-- mov r0, -2 / add32 r0, 1 / exit
abbrev pub low_sum_program : Program
low_sum_program =
    layout (Mov Bits64 R0 (Imm (negsuc 1)) ∷ Alu Bits32 Add R0 (Imm (pos 1)) ∷ Exit ∷ [])

-- mov r0, 1 / lsh r0, 64 / exit
abbrev pub masked_program : Program
masked_program = layout (Mov Bits64 R0 (Imm (pos 1)) ∷ Alu Bits64 Lsh R0 (Imm (pos 64)) ∷ Exit ∷ [])

-- lddw r0, 21474836483 / rsh r0, 32 / exit
abbrev pub wide_program : Program
wide_program = layout (Wide R0 (Number 21474836483) ∷ Alu Bits64 Rsh R0 (Imm (pos 32)) ∷ Exit ∷ [])

-- ---- operands

-- mov r0, -1 / and r0, -1 / rsh r0, 32 / exit
abbrev pub all_ones_program : Program
all_ones_program =
    layout (Mov Bits64 R0 (Imm (negsuc 0)) ∷ Alu Bits64 And R0 (Imm (negsuc 0))
    ∷ Alu Bits64 Rsh R0 (Imm (pos 32)) ∷ Exit ∷ [])

-- mov r0, -1 / and32 r0, -1 / exit
abbrev pub low_ones_program : Program
low_ones_program =
    layout (Mov Bits64 R0 (Imm (negsuc 0)) ∷ Alu Bits32 And R0 (Imm (negsuc 0)) ∷ Exit ∷ [])

-- mov32 r0, -1 / exit
abbrev pub mov32_imm_program : Program
mov32_imm_program = layout (Mov Bits32 R0 (Imm (negsuc 0)) ∷ Exit ∷ [])

-- mov r2, -1 / mov32 r0, r2 / exit
abbrev pub mov32_register_program : Program
mov32_register_program =
    layout (Mov Bits64 R2 (Imm (negsuc 0)) ∷ Mov Bits32 R0 (Register R2) ∷ Exit ∷ [])

-- mov r2, 128 / movsx8 r0, r2 / neg r0 / exit
abbrev pub movsx8_program : Program
movsx8_program =
    layout (Mov Bits64 R2 (Imm (pos 128)) ∷ MovSx Byte64 R0 R2 ∷ Neg Bits64 R0 ∷ Exit ∷ [])

-- mov r2, 128 / movsx8w r0, r2 / exit
abbrev pub movsx8w_program : Program
movsx8w_program = layout (Mov Bits64 R2 (Imm (pos 128)) ∷ MovSx Byte32 R0 R2 ∷ Exit ∷ [])

-- mov r0, 1 / neg32 r0 / exit
abbrev pub neg32_program : Program
neg32_program = layout (Mov Bits64 R0 (Imm (pos 1)) ∷ Neg Bits32 R0 ∷ Exit ∷ [])

-- mov r0, 66051 / be16 r0 / exit
abbrev pub be16_program : Program
be16_program = layout (Mov Bits64 R0 (Imm (pos 66051)) ∷ End Big Half R0 ∷ Exit ∷ [])

-- ---- jumps

-- ja +1 / exit / mov r0, 2 / exit
abbrev pub ja_program : Program
ja_program = layout (Jump (Short (pos 1)) ∷ Exit ∷ Mov Bits64 R0 (Imm (pos 2)) ∷ Exit ∷ [])

-- jal +1 / exit / mov r0, 2 / exit
abbrev pub jal_program : Program
jal_program = layout (Jump (Long (pos 1)) ∷ Exit ∷ Mov Bits64 R0 (Imm (pos 2)) ∷ Exit ∷ [])

-- mov r0, 5 / ja +1 / exit / ja -2
abbrev pub back_program : Program
back_program =
    layout (Mov Bits64 R0 (Imm (pos 5)) ∷ Jump (Short (pos 1)) ∷ Exit ∷ Jump (Short (negsuc 1))
    ∷ [])

-- ja +2 / lddw r0, 7 / mov r0, 1 / exit
abbrev pub over_wide_program : Program
over_wide_program =
    layout (Jump (Short (pos 2)) ∷ Wide R0 (Number 7) ∷ Mov Bits64 R0 (Imm (pos 1)) ∷ Exit ∷ [])

-- mov r0, 1 / mov r2, -1 / jsgt r0, r2, +1 / mov r0, 0 / exit
abbrev pub signed_program : Program
signed_program =
    layout (Mov Bits64 R0 (Imm (pos 1)) ∷ Mov Bits64 R2 (Imm (negsuc 0))
    ∷ JumpIf Bits64 Sgt R0 (Register R2) (pos 1) ∷ Mov Bits64 R0 (Imm (pos 0)) ∷ Exit ∷ [])

-- mov r0, 1 / mov r2, -1 / jgt r0, r2, +1 / mov r0, 0 / exit
abbrev pub unsigned_program : Program
unsigned_program =
    layout (Mov Bits64 R0 (Imm (pos 1)) ∷ Mov Bits64 R2 (Imm (negsuc 0))
    ∷ JumpIf Bits64 Gt R0 (Register R2) (pos 1) ∷ Mov Bits64 R0 (Imm (pos 0)) ∷ Exit ∷ [])

-- mov r0, 1 / mov32 r2, -1 / jeq r2, -1, +1 / mov r0, 0 / exit
abbrev pub jeq_program : Program
jeq_program =
    layout (Mov Bits64 R0 (Imm (pos 1)) ∷ Mov Bits32 R2 (Imm (negsuc 0))
    ∷ JumpIf Bits64 Eq R2 (Imm (negsuc 0)) (pos 1) ∷ Mov Bits64 R0 (Imm (pos 0)) ∷ Exit ∷ [])

-- mov r0, 1 / mov32 r2, -1 / jeq32 r2, -1, +1 / mov r0, 0 / exit
abbrev pub jeq32_program : Program
jeq32_program =
    layout (Mov Bits64 R0 (Imm (pos 1)) ∷ Mov Bits32 R2 (Imm (negsuc 0))
    ∷ JumpIf Bits32 Eq R2 (Imm (negsuc 0)) (pos 1) ∷ Mov Bits64 R0 (Imm (pos 0)) ∷ Exit ∷ [])
