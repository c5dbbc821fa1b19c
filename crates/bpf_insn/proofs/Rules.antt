-- The halves of an instruction keep every rule.
use Rattle.std.proofs.Common.{◌≡◌, ◌≤◌, pos, false, inl, inr, refl, arith}
use Rattle.bpf_insn.specs.declared.operand.AluOp.{AluOp}
use Rattle.bpf_insn.specs.declared.operand.AluOp.TheVariants as alu
use Rattle.bpf_insn.specs.declared.operand.Distance.TheVariants.{Short, Long}
use Rattle.bpf_insn.specs.declared.operand.Operand.TheVariants as source
use Rattle.bpf_insn.specs.declared.operand.WideValue.{WideValue}
use Rattle.bpf_insn.specs.declared.operand.WideValue.TheVariants.{Number, Map, Cell}
use Rattle.bpf_insn.specs.declared.reg.Reg.{Reg}
use Rattle.bpf_insn.specs.declared.reg.Reg.TheVariants.{R0, R1, R2, R3, R4, R5, R6, R7, R8, R9, R10}
use Rattle.bpf_insn.specs.declared.insn.Insn.{Insn}
use Rattle.bpf_insn.specs.declared.insn.Insn.TheVariants as insn
use Rattle.bpf_insn.specs.declared.fields.InsnFault.{InsnFault}
use Rattle.bpf_insn.specs.declared.fields.InsnFault.TheVariants.{Register, UnusedField, Imm, Offset}
use Rattle.bpf_insn.specs.Table.{opcode_of, row_of, number_of, source_code}
use Rattle.bpf_insn.specs.Table.{code_of, offset_of, alu_offset}
use Rattle.bpf_insn.specs.Faults.{Keeps, LeavesUnused, IsSecondHalf, AllowsOffset, uses_offset}
use Rattle.bpf_insn.specs.Spelling.{form_of, fields_of, second_half, next_imm, wide_source}

pub opcode-form : (i : Insn) → opcode_of (form_of i) ≡ (fields_of i).opcode
opcode-form (insn.Jump (Short k)) = refl
opcode-form (insn.Jump (Long k)) = refl
opcode-form i = refl

fits : (r : Reg) → number_of r ≤ 10
fits R0 = omega arith
fits R1 = omega arith
fits R2 = omega arith
fits R3 = omega arith
fits R4 = omega arith
fits R5 = omega arith
fits R6 = omega arith
fits R7 = omega arith
fits R8 = omega arith
fits R9 = omega arith
fits R10 = omega arith

offset_unused : (op : AluOp) → uses_offset (alu_offset (code_of op)) ≡ false
    → pos (offset_of op) ≡ pos 0
offset_unused alu.Sdiv e = absurd cc
offset_unused alu.Smod e = absurd cc
offset_unused op e = refl

offset_allowed : (op : AluOp) → AllowsOffset (alu_offset (code_of op)) (pos (offset_of op))
offset_allowed alu.Div = inl refl
offset_allowed alu.Mod = inl refl
offset_allowed alu.Sdiv = inr refl
offset_allowed alu.Smod = inr refl
offset_allowed op = tt

keeps_registers : (i : Insn) → Keeps (row_of (form_of i)) (fields_of i) Register
keeps_registers (insn.Alu bits op dst (source.Imm k)) = (fits dst, tt)
keeps_registers (insn.Alu bits op dst (source.Register r)) = (fits dst, fits r)
keeps_registers (insn.Mov bits dst (source.Imm k)) = (fits dst, tt)
keeps_registers (insn.Mov bits dst (source.Register r)) = (fits dst, fits r)
keeps_registers (insn.MovSx extension dst s) = (fits dst, fits s)
keeps_registers (insn.Neg bits dst) = (fits dst, tt)
keeps_registers (insn.End order size dst) = (fits dst, tt)
keeps_registers (insn.Jump (Short k)) = (tt, tt)
keeps_registers (insn.Jump (Long k)) = (tt, tt)
keeps_registers (insn.JumpIf bits condition left (source.Imm k) o) = (fits left, tt)
keeps_registers (insn.JumpIf bits condition left (source.Register r) o) = (fits left, fits r)
keeps_registers (insn.Call helper) = (tt, refl)
keeps_registers insn.Exit = (tt, tt)
keeps_registers (insn.Load kind dst s o) = (fits dst, fits s)
keeps_registers (insn.StoreImm size dst o k) = (fits dst, tt)
keeps_registers (insn.Store size dst s o) = (fits dst, fits s)
keeps_registers (insn.Atomic op size dst s o) = (fits dst, fits s)
keeps_registers (insn.Wide dst value) = (fits dst, (wide_source value, refl))

leaves_unused : (i : Insn) → LeavesUnused (row_of (form_of i)) (fields_of i)
leaves_unused (insn.Alu bits op dst (source.Imm k)) = grind (arith, offset_unused op)
leaves_unused (insn.Alu bits op dst (source.Register r)) = grind (arith, offset_unused op)
leaves_unused (insn.Mov bits dst (source.Imm k)) = grind arith
leaves_unused (insn.Mov bits dst (source.Register r)) = grind arith
leaves_unused (insn.Jump (Short k)) = grind arith
leaves_unused (insn.Jump (Long k)) = grind arith
leaves_unused (insn.JumpIf bits condition left (source.Imm k) o) = grind arith
leaves_unused (insn.JumpIf bits condition left (source.Register r) o) = grind arith
leaves_unused i = grind arith

keeps_imm : (i : Insn) → Keeps (row_of (form_of i)) (fields_of i) Imm
keeps_imm (insn.Alu bits op dst (source.Imm k)) = tt
keeps_imm (insn.Alu bits op dst (source.Register r)) = tt
keeps_imm (insn.Mov bits dst (source.Imm k)) = tt
keeps_imm (insn.Mov bits dst (source.Register r)) = tt
keeps_imm (insn.End order size dst) = (size, refl)
keeps_imm (insn.Atomic op size dst s o) = (op, refl)
keeps_imm (insn.Jump (Short k)) = tt
keeps_imm (insn.Jump (Long k)) = tt
keeps_imm (insn.JumpIf bits condition left (source.Imm k) o) = tt
keeps_imm (insn.JumpIf bits condition left (source.Register r) o) = tt
keeps_imm i = tt

keeps_offset : (i : Insn) → Keeps (row_of (form_of i)) (fields_of i) Offset
keeps_offset (insn.Alu bits op dst s) = offset_allowed op
keeps_offset (insn.Mov bits dst (source.Imm k)) = tt
keeps_offset (insn.Mov bits dst (source.Register r)) = inl refl
keeps_offset (insn.MovSx extension dst s) = inr (extension, (refl, refl))
keeps_offset (insn.Jump (Short k)) = tt
keeps_offset (insn.Jump (Long k)) = tt
keeps_offset i = tt

pub keeps_rules : (i : Insn) (e : InsnFault) → Keeps (row_of (form_of i)) (fields_of i) e
keeps_rules i Register = keeps_registers i
keeps_rules i UnusedField = leaves_unused i
keeps_rules i Imm = keeps_imm i
keeps_rules i Offset = keeps_offset i
keeps_rules i e = tt

pub is_second_half : (v : WideValue)
    → IsSecondHalf (source_code (wide_source v)) (second_half (next_imm v))
is_second_half (Number n) = grind arith
is_second_half (Map k) = grind arith
is_second_half (Cell k o) = grind arith
