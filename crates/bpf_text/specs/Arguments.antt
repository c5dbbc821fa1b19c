-- The mnemonic of each instruction, and its arguments, in order: one line for each form.
use Rattle.std.specs.Prelude.{ℤ}
use Rattle.bpf_insn.specs.declared.reg.Reg.{Reg}
use Rattle.bpf_insn.specs.declared.operand.Distance.TheVariants.{Short, Long}
use Rattle.bpf_insn.specs.declared.operand.Operand as operands
use Rattle.bpf_insn.specs.declared.operand.Operand.TheVariants as operand
use Rattle.bpf_insn.specs.declared.operand.WideValue.{WideValue}
use Rattle.bpf_insn.specs.declared.operand.WideValue.TheVariants as wide
use Rattle.bpf_insn.specs.declared.insn.Insn.{Insn}
use Rattle.bpf_insn.specs.declared.insn.Insn.TheVariants as insn
use Rattle.bpf_text.specs.declared.argument.Argument.{Argument}
use Rattle.bpf_text.specs.declared.argument.Argument.TheVariants.{Register, Imm, Number}
use Rattle.bpf_text.specs.declared.argument.Argument.TheVariants.{Memory, Distance}
use Rattle.bpf_text.specs.declared.three.UpToThree.{UpToThree}
use Rattle.bpf_text.specs.declared.mnemonic.Mnemonic.{Mnemonic}
use Rattle.bpf_text.specs.declared.mnemonic.Mnemonic.TheVariants as word
use Rattle.bpf_text.specs.Three.{none, one, two, three}

abbrev pub mnemonic_of : Insn → Mnemonic
mnemonic_of (insn.Alu bits op dst s) = word.Alu bits op
mnemonic_of (insn.Mov bits dst s) = word.Mov bits
mnemonic_of (insn.MovSx extension dst s) = word.MovSx extension
mnemonic_of (insn.Neg bits dst) = word.Neg bits
mnemonic_of (insn.End order size dst) = word.End order size
mnemonic_of (insn.Jump (Short k)) = word.Jump
mnemonic_of (insn.Jump (Long k)) = word.JumpLong
mnemonic_of (insn.JumpIf bits condition left right k) = word.JumpIf bits condition
mnemonic_of (insn.Call helper) = word.Call
mnemonic_of insn.Exit = word.Exit
mnemonic_of (insn.Load kind dst s k) = word.Load kind
mnemonic_of (insn.StoreImm size dst k value) = word.StoreImm size
mnemonic_of (insn.Store size dst s k) = word.Store size
mnemonic_of (insn.Atomic op size dst s k) = word.Atomic op size
mnemonic_of (insn.Wide dst (wide.Number n)) = word.LoadNumber
mnemonic_of (insn.Wide dst (wide.Map i)) = word.LoadMap
mnemonic_of (insn.Wide dst (wide.Cell i k)) = word.LoadCell

-- the second operand is a number (K) or a register (X)
abbrev pub operand_argument : operands.Operand → Argument
operand_argument (operand.Imm k) = Imm k
operand_argument (operand.Register r) = Register r

-- the two operands that a jump compares, and its distance
abbrev pub jump_arguments : Reg → operands.Operand → ℤ → UpToThree Argument
jump_arguments left right k =
    three (Register left) (operand_argument right) (Distance (Short k))

-- the number of lddw, the index of ldmap, and both parts of ldcell
abbrev pub wide_arguments : Reg → WideValue → UpToThree Argument
wide_arguments dst (wide.Number n) = two (Register dst) (Number n)
wide_arguments dst (wide.Map i) = two (Register dst) (Imm i)
wide_arguments dst (wide.Cell i k) = three (Register dst) (Imm i) (Imm k)

-- dst comes first, also if it is the address of a store; a distance comes last
abbrev pub arguments_of : Insn → UpToThree Argument
arguments_of (insn.Alu bits op dst s) = two (Register dst) (operand_argument s)
arguments_of (insn.Mov bits dst s) = two (Register dst) (operand_argument s)
arguments_of (insn.MovSx extension dst s) = two (Register dst) (Register s)
arguments_of (insn.Neg bits dst) = one (Register dst)
arguments_of (insn.End order size dst) = one (Register dst)
arguments_of (insn.Jump distance) = one (Distance distance)
arguments_of (insn.JumpIf bits condition left right k) = jump_arguments left right k
arguments_of (insn.Call helper) = one (Imm helper)
arguments_of insn.Exit = none
arguments_of (insn.Load kind dst s k) = two (Register dst) (Memory s k)
arguments_of (insn.StoreImm size dst k value) = two (Memory dst k) (Imm value)
arguments_of (insn.Store size dst s k) = two (Memory dst k) (Register s)
arguments_of (insn.Atomic op size dst s k) = two (Memory dst k) (Register s)
arguments_of (insn.Wide dst value) = wide_arguments dst value
