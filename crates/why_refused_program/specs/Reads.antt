-- The registers that an instruction reads, as one value.
use Rattle.std.specs.Prelude.{◌≡◌, Bool, false, ◌||◌, ◌==◌}
use Rattle.std.specs.Prelude.{Option, Some, None, ◌++◌, option_to_list, List}
use Rattle.bpf_insn.specs.declared.insn.Insn.{Insn}
use Rattle.bpf_insn.specs.declared.insn.Insn.TheVariants.{Alu, Mov, MovSx, Neg, Atomic, Wide}
use Rattle.bpf_insn.specs.declared.insn.Insn.TheVariants.{End, Jump, JumpIf}
use Rattle.bpf_insn.specs.declared.insn.Insn.TheVariants.{Call, Exit, Load}
use Rattle.bpf_insn.specs.declared.insn.Insn.TheVariants.{StoreImm, Store}
use Rattle.bpf_insn.specs.declared.operand.AtomicOp.{AtomicOp}
use Rattle.bpf_insn.specs.declared.operand.AtomicOp.TheVariants as atomic
use Rattle.bpf_insn.specs.declared.operand.Operand.{Operand}
use Rattle.bpf_insn.specs.declared.operand.Operand.TheVariants.{Imm, Register}
use Rattle.bpf_insn.specs.declared.reg.Reg.{Reg}
use Rattle.bpf_insn.specs.declared.reg.Reg.TheVariants.{R0, R1, R2, R3}
use Rattle.bpf_insn.specs.Table.{number_of}
use Rattle.bpf_semantics.specs.declared.helpers.Prototype.{Prototype}
use Rattle.bpf_semantics.specs.declared.helpers.Prototype.TheVariants.{OfMap, OfText, OfNumber}
use Rattle.bpf_semantics.specs.Helpers.{called_prototype}
use Rattle.bpf_checks.specs.Reads.{reads}
use Rattle.why_refused_program.specs.declared.reads.ReadRegisters.{ReadRegisters}

-- ---- registers

abbrev pub registers_of : ReadRegisters → List Reg
registers_of r = option_to_list r.first ++ (option_to_list r.second ++ option_to_list r.third)

abbrev pub no_register : ReadRegisters
no_register = record { first = None; second = None; third = None }

abbrev pub one_register : Reg → ReadRegisters
one_register r = record { first = Some r; second = None; third = None }

abbrev pub two_registers : Reg → Reg → ReadRegisters
two_registers r s = record { first = Some r; second = Some s; third = None }

abbrev pub three_registers : Reg → Reg → Reg → ReadRegisters
three_registers r s t = record { first = Some r; second = Some s; third = Some t }

abbrev pub with_operand : Reg → Operand → ReadRegisters
with_operand r (Imm k) = one_register r
with_operand r (Register s) = two_registers r s

abbrev pub operand_registers : Operand → ReadRegisters
operand_registers (Imm k) = no_register
operand_registers (Register r) = one_register r

abbrev pub argument_registers : Option Prototype → ReadRegisters
argument_registers None = no_register
argument_registers (Some OfMap) = two_registers R1 R2
argument_registers (Some OfText) = three_registers R1 R2 R3
argument_registers (Some (OfNumber most)) = one_register R1

abbrev pub exchanged_registers : AtomicOp → Reg → Reg → ReadRegisters
exchanged_registers atomic.CompareExchange dst src = three_registers dst src R0
exchanged_registers op dst src = two_registers dst src

-- the registers that an instruction reads, which are those of the rules
abbrev pub read_registers : Insn → ReadRegisters
read_registers (Alu bits op dst src) = with_operand dst src
read_registers (Mov bits dst src) = operand_registers src
read_registers (MovSx extension dst src) = one_register src
read_registers (Neg bits dst) = one_register dst
read_registers (End order size dst) = one_register dst
read_registers (Jump distance) = no_register
read_registers (JumpIf bits condition left right offset) = with_operand left right
read_registers (Call number) = argument_registers (called_prototype number)
read_registers Exit = one_register R0
read_registers (Load kind dst src offset) = one_register src
read_registers (StoreImm size dst offset imm) = one_register dst
read_registers (Store size dst src offset) = two_registers dst src
read_registers (Atomic op size dst src offset) = exchanged_registers op dst src
read_registers (Wide dst value) = no_register

-- they are those that the instruction reads by the rules
abbrev pub AreRead : Insn → Type 0
AreRead i = registers_of (read_registers i) ≡ reads i

abbrev pub is_register : Reg → Option Reg → Bool
is_register r None = false
is_register r (Some x) = number_of x == number_of r

abbrev pub is_among : Reg → ReadRegisters → Bool
is_among r rs = is_register r rs.first || is_register r rs.second || is_register r rs.third
