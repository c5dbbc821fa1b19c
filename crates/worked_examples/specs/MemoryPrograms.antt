-- Programs of loads and stores on the stack, with runs worked out by hand.
use Rattle.std.specs.Prelude.{[], ◌∷◌, ℤ, pos, negsuc}
use Rattle.bpf_insn.specs.declared.reg.Reg.TheVariants.{R0, R2, R10}
use Rattle.bpf_insn.specs.declared.operand.AluOp.TheVariants.{And}
use Rattle.bpf_insn.specs.declared.operand.Bits.TheVariants.{Bits64}
use Rattle.bpf_insn.specs.declared.operand.LoadKind.{LoadKind}
use Rattle.bpf_insn.specs.declared.operand.LoadKind.TheVariants as load
use Rattle.bpf_insn.specs.declared.operand.Operand.TheVariants.{Imm}
use Rattle.bpf_insn.specs.declared.operand.Size.{Size}
use Rattle.bpf_insn.specs.declared.operand.Size.TheVariants as size
use Rattle.bpf_insn.specs.declared.insn.Insn.TheVariants.{Alu, Mov, Exit, Load, StoreImm, Store}
use Rattle.bpf_insn.specs.Program.{Program, layout}

-- ---- the stack

-- mov r2, 7 / stxdw [r10-8], r2 / ldxdw r0, [r10-8] / exit
abbrev pub round_trip_program : Program
round_trip_program =
    layout (Mov Bits64 R2 (Imm (pos 7)) ∷ Store size.Double R10 R2 (negsuc 7)
    ∷ Load load.Double R0 R10 (negsuc 7) ∷ Exit ∷ [])

-- mov r2, 7 / stxw [r10-8], r2 / stw [r10-4], 0 / ldxdw r0, [r10-8] / and r0, 7 / exit
abbrev pub joined_program : Program
joined_program =
    layout (Mov Bits64 R2 (Imm (pos 7)) ∷ Store size.Word R10 R2 (negsuc 7)
    ∷ StoreImm size.Word R10 (negsuc 3) (pos 0) ∷ Load load.Double R0 R10 (negsuc 7)
    ∷ Alu Bits64 And R0 (Imm (pos 7)) ∷ Exit ∷ [])

-- stdw [r10-8], 0 / mov r2, -1 / stxh [r10-8], r2 / ldxdw r0, [r10-8] / exit
abbrev pub partial_program : Program
partial_program =
    layout (StoreImm size.Double R10 (negsuc 7) (pos 0) ∷ Mov Bits64 R2 (Imm (negsuc 0))
    ∷ Store size.Half R10 R2 (negsuc 7) ∷ Load load.Double R0 R10 (negsuc 7) ∷ Exit ∷ [])

-- stdw [r10-8], 16909060 / stb [r10-8], 9 / ldxw r0, [r10-8] / exit
abbrev pub overwritten_program : Program
overwritten_program =
    layout (StoreImm size.Double R10 (negsuc 7) (pos 16909060)
    ∷ StoreImm size.Byte R10 (negsuc 7) (pos 9) ∷ Load load.Word R0 R10 (negsuc 7) ∷ Exit ∷ [])

-- stw [r10-7], 16909060 / ldxh r0, [r10-6] / exit
abbrev pub unaligned_program : Program
unaligned_program =
    layout (StoreImm size.Word R10 (negsuc 6) (pos 16909060) ∷ Load load.Half R0 R10 (negsuc 5)
    ∷ Exit ∷ [])

-- stb [r10-512], 1 / ldxb r0, [r10-512] / exit
abbrev pub lowest_program : Program
lowest_program =
    layout (StoreImm size.Byte R10 (negsuc 511) (pos 1) ∷ Load load.Byte R0 R10 (negsuc 511) ∷ Exit
    ∷ [])

-- stdw [r10-8], -2 / ldxw r0, [r10-4] / exit
abbrev pub stdw_program : Program
stdw_program =
    layout (StoreImm size.Double R10 (negsuc 7) (negsuc 1) ∷ Load load.Word R0 R10 (negsuc 3)
    ∷ Exit ∷ [])

-- ---- how a load extends to 64 bits, at the top of the stack

-- STORE [r10+offset], -2 / LOAD r0, [r10+offset] / exit
abbrev pub negative_program : Size → LoadKind → ℤ → Program
negative_program width kind offset =
    layout (StoreImm width R10 offset (negsuc 1) ∷ Load kind R0 R10 offset ∷ Exit ∷ [])

-- STORE [r10+offset], 127 / LOAD r0, [r10+offset] / exit
abbrev pub positive_program : Size → LoadKind → ℤ → Program
positive_program width kind offset =
    layout (StoreImm width R10 offset (pos 127) ∷ Load kind R0 R10 offset ∷ Exit ∷ [])
