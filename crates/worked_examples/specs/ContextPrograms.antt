-- Programs that read the context, with runs worked out by hand.
use Rattle.std.specs.Prelude.{[], ◌∷◌, pos}
use Rattle.bpf_insn.specs.declared.reg.Reg.TheVariants.{R0, R1, R2}
use Rattle.bpf_insn.specs.declared.operand.Bits.TheVariants.{Bits64, Bits32}
use Rattle.bpf_insn.specs.declared.operand.Condition.TheVariants.{Ge, Slt}
use Rattle.bpf_insn.specs.declared.operand.LoadKind.TheVariants as load
use Rattle.bpf_insn.specs.declared.operand.Operand.TheVariants.{Imm}
use Rattle.bpf_insn.specs.declared.insn.Insn.TheVariants.{Mov, JumpIf, Exit, Load}
use Rattle.bpf_insn.specs.Program.{Program, layout}

-- ldxh r2, [r1+16] / mov r0, 0 / jge r2, 100, +1 / mov r0, 1 / exit
abbrev pub bucket_program : Program
bucket_program =
    layout (Load load.Half R2 R1 (pos 16) ∷ Mov Bits64 R0 (Imm (pos 0))
    ∷ JumpIf Bits64 Ge R2 (Imm (pos 100)) (pos 1) ∷ Mov Bits64 R0 (Imm (pos 1)) ∷ Exit ∷ [])

-- ldxw r2, [r1+0] / mov r0, 0 / jslt32 r2, 0, +1 / mov r0, 1 / exit
abbrev pub version_program : Program
version_program =
    layout (Load load.Word R2 R1 (pos 0) ∷ Mov Bits64 R0 (Imm (pos 0))
    ∷ JumpIf Bits32 Slt R2 (Imm (pos 0)) (pos 1) ∷ Mov Bits64 R0 (Imm (pos 1)) ∷ Exit ∷ [])

-- ldxb r0, [r1+63] / exit
abbrev pub last_byte_program : Program
last_byte_program = layout (Load load.Byte R0 R1 (pos 63) ∷ Exit ∷ [])

-- ldxdw r0, [r1+56] / exit
abbrev pub last_double_program : Program
last_double_program = layout (Load load.Double R0 R1 (pos 56) ∷ Exit ∷ [])
