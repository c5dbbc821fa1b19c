-- The registers in an instruction's comment are those that it reads by the rules.
use Rattle.std.proofs.Common.{◌≡◌, Option, Some, None, refl}
use Rattle.bpf_insn.specs.declared.insn.Insn.{Insn}
use Rattle.bpf_insn.specs.declared.insn.Insn.TheVariants.{Alu, Mov, JumpIf, Call, Atomic}
use Rattle.bpf_insn.specs.declared.operand.AtomicOp.TheVariants.{CompareExchange}
use Rattle.bpf_insn.specs.declared.operand.Operand.TheVariants.{Imm, Register}
use Rattle.bpf_semantics.specs.declared.helpers.Prototype.{Prototype}
use Rattle.bpf_semantics.specs.declared.helpers.Prototype.TheVariants.{OfMap, OfText, OfNumber}
use Rattle.bpf_semantics.specs.Helpers.{called_prototype}
use Rattle.bpf_checks.specs.Reads.{arguments}
use Rattle.why_refused_program.specs.Reads.{AreRead, registers_of, argument_registers}

of_prototype : (p : Option Prototype) → registers_of (argument_registers p) ≡ arguments p
of_prototype None = refl
of_prototype (Some OfMap) = refl
of_prototype (Some OfText) = refl
of_prototype (Some (OfNumber most)) = refl

pub registers_are_read : (i : Insn) → AreRead i
registers_are_read (Alu bits op dst (Imm k)) = refl
registers_are_read (Alu bits op dst (Register r)) = refl
registers_are_read (Mov bits dst (Imm k)) = refl
registers_are_read (Mov bits dst (Register r)) = refl
registers_are_read (JumpIf bits condition left (Imm k) offset) = refl
registers_are_read (JumpIf bits condition left (Register r) offset) = refl
registers_are_read (Call number) = of_prototype (called_prototype number)
registers_are_read (Atomic CompareExchange size dst src offset) = refl
registers_are_read (Atomic op size dst src offset) = refl
registers_are_read i = refl
