-- Programs with an undefined step: their runs end with Trap.
use Rattle.std.specs.Prelude.{[], ◌∷◌, pos, negsuc}
use Rattle.bpf_insn.specs.declared.reg.Reg.TheVariants.{R0, R2, R3, R10}
use Rattle.bpf_insn.specs.declared.operand.AluOp.TheVariants as alu
use Rattle.bpf_insn.specs.declared.operand.Bits.TheVariants.{Bits64}
use Rattle.bpf_insn.specs.declared.operand.ByteOrder.TheVariants.{Little}
use Rattle.bpf_insn.specs.declared.operand.Condition.TheVariants.{Eq}
use Rattle.bpf_insn.specs.declared.operand.Distance.TheVariants.{Short}
use Rattle.bpf_insn.specs.declared.operand.EndSize.TheVariants as end
use Rattle.bpf_insn.specs.declared.operand.Extension.TheVariants.{Byte64}
use Rattle.bpf_insn.specs.declared.operand.LoadKind.TheVariants as load
use Rattle.bpf_insn.specs.declared.operand.Operand.TheVariants.{Imm, Register}
use Rattle.bpf_insn.specs.declared.operand.Size.TheVariants as size
use Rattle.bpf_insn.specs.declared.operand.WideValue.TheVariants.{Number}
use Rattle.bpf_insn.specs.declared.insn.Insn.{Insn}
use Rattle.bpf_insn.specs.declared.insn.Insn.TheVariants.{Alu, Mov, MovSx, Neg, End, Jump, JumpIf}
use Rattle.bpf_insn.specs.declared.insn.Insn.TheVariants.{Exit, Load, StoreImm, Store, Wide}
use Rattle.bpf_insn.specs.Program.{Program, layout}

-- one instruction, from the opening state
abbrev pub single : Insn → Program
single i = layout (i ∷ [])

-- ---- an unset register is read; in the opening state only R1 and R10 are set

-- exit
abbrev pub exit_program : Program
exit_program = single Exit

-- add r0, 1
abbrev pub add_program : Program
add_program = single (Alu Bits64 alu.Add R0 (Imm (pos 1)))

-- mov r0, 1 / add r0, r2
abbrev pub add_register_program : Program
add_register_program =
    layout (Mov Bits64 R0 (Imm (pos 1)) ∷ Alu Bits64 alu.Add R0 (Register R2) ∷ [])

-- mov r0, r2
abbrev pub mov_program : Program
mov_program = single (Mov Bits64 R0 (Register R2))

-- movsx8 r0, r2
abbrev pub movsx_program : Program
movsx_program = single (MovSx Byte64 R0 R2)

-- neg r0
abbrev pub neg_program : Program
neg_program = single (Neg Bits64 R0)

-- le16 r0
abbrev pub end_program : Program
end_program = single (End Little end.Half R0)

-- jeq r2, 0, +0 / exit
abbrev pub left_program : Program
left_program = layout (JumpIf Bits64 Eq R2 (Imm (pos 0)) (pos 0) ∷ Exit ∷ [])

-- mov r2, 0 / jeq r2, r3, +0 / exit
abbrev pub right_program : Program
right_program =
    layout (Mov Bits64 R2 (Imm (pos 0)) ∷ JumpIf Bits64 Eq R2 (Register R3) (pos 0) ∷ Exit ∷ [])

-- ldxb r0, [r2+0]
abbrev pub load_base_program : Program
load_base_program = single (Load load.Byte R0 R2 (pos 0))

-- stb [r2+0], 1
abbrev pub store_base_program : Program
store_base_program = single (StoreImm size.Byte R2 (pos 0) (pos 1))

-- stxb [r10-1], r2
abbrev pub store_value_program : Program
store_value_program = single (Store size.Byte R10 R2 (negsuc 0))

-- ---- an unset byte of the stack is read

-- mov r2, 7 / stxw [r10-8], r2 / ldxw r0, [r10-4] / exit
abbrev pub unset_word_program : Program
unset_word_program =
    layout (Mov Bits64 R2 (Imm (pos 7)) ∷ Store size.Word R10 R2 (negsuc 7)
    ∷ Load load.Word R0 R10 (negsuc 3) ∷ Exit ∷ [])

-- sth [r10-2], 1 / ldxw r0, [r10-4] / exit
abbrev pub half_set_program : Program
half_set_program =
    layout (StoreImm size.Half R10 (negsuc 1) (pos 1) ∷ Load load.Word R0 R10 (negsuc 3) ∷ Exit
    ∷ [])

-- sth [r10-4], 1 / ldxw r0, [r10-4] / exit
abbrev pub low_set_program : Program
low_set_program =
    layout (StoreImm size.Half R10 (negsuc 3) (pos 1) ∷ Load load.Word R0 R10 (negsuc 3) ∷ Exit
    ∷ [])

-- ---- no instruction begins at the slot

-- no slots
abbrev pub empty_program : Program
empty_program = []

-- mov r0, 0
abbrev pub endless_program : Program
endless_program = single (Mov Bits64 R0 (Imm (pos 0)))

-- ja +1 / exit
abbrev pub past_program : Program
past_program = layout (Jump (Short (pos 1)) ∷ Exit ∷ [])

-- ja -2 / exit
abbrev pub before_program : Program
before_program = layout (Jump (Short (negsuc 1)) ∷ Exit ∷ [])

-- ja +1 / lddw r0, 5 / exit
abbrev pub half_program : Program
half_program = layout (Jump (Short (pos 1)) ∷ Wide R0 (Number 5) ∷ Exit ∷ [])
