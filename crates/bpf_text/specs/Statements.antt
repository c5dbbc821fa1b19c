-- How the assembler finds the instruction of a mnemonic and its arguments: by their number. The
-- result is right, and each instruction is found (proofs/Statements).
use Rattle.std.specs.Prelude.{ℤ, Option, Some, None}
use Rattle.bpf_insn.specs.declared.reg.Reg.{Reg}
use Rattle.bpf_insn.specs.declared.operand.Operand as operands
use Rattle.bpf_insn.specs.declared.operand.Operand.TheVariants as operand
use Rattle.bpf_insn.specs.declared.operand.Distance.TheVariants.{Short, Long}
use Rattle.bpf_insn.specs.declared.operand.WideValue.TheVariants as wide
use Rattle.bpf_insn.specs.declared.insn.Insn.{Insn}
use Rattle.bpf_insn.specs.declared.insn.Insn.TheVariants as insn
use Rattle.bpf_insn.specs.Program.{◌>>=◌}
use Rattle.bpf_text.specs.declared.three.UpToThree.{UpToThree}
use Rattle.bpf_text.specs.declared.argument.Argument.{Argument}
use Rattle.bpf_text.specs.declared.argument.Argument.TheVariants.{Register, Imm, Number}
use Rattle.bpf_text.specs.declared.argument.Argument.TheVariants.{Memory, Distance}
use Rattle.bpf_text.specs.declared.mnemonic.Mnemonic.{Mnemonic}
use Rattle.bpf_text.specs.declared.mnemonic.Mnemonic.TheVariants as word

abbrev pub operand_in : Argument → Option operands.Operand
operand_in (Register r) = Some (operand.Register r)
operand_in (Imm k) = Some (operand.Imm k)
operand_in a = None

abbrev pub insn_of_none : Mnemonic → Option Insn
insn_of_none word.Exit = Some insn.Exit
insn_of_none m = None

abbrev pub insn_of_one : Mnemonic → Argument → Option Insn
insn_of_one (word.Neg bits) (Register dst) = Some (insn.Neg bits dst)
insn_of_one (word.End order size) (Register dst) = Some (insn.End order size dst)
insn_of_one word.Jump (Distance (Short k)) = Some (insn.Jump (Short k))
insn_of_one word.JumpLong (Distance (Long k)) = Some (insn.Jump (Long k))
insn_of_one word.Call (Imm helper) = Some (insn.Call helper)
insn_of_one m a = None

abbrev pub load_of : Mnemonic → Reg → Argument → Option Insn
load_of (word.Alu bits op) dst a = operand_in a >>= λ src. Some (insn.Alu bits op dst src)
load_of (word.Mov bits) dst a = operand_in a >>= λ src. Some (insn.Mov bits dst src)
load_of (word.MovSx extension) dst (Register src) = Some (insn.MovSx extension dst src)
load_of (word.Load kind) dst (Memory src k) = Some (insn.Load kind dst src k)
load_of word.LoadNumber dst (Number n) = Some (insn.Wide dst (wide.Number n))
load_of word.LoadMap dst (Imm i) = Some (insn.Wide dst (wide.Map i))
load_of m dst a = None

abbrev pub store_of : Mnemonic → Reg → ℤ → Argument → Option Insn
store_of (word.StoreImm size) dst k (Imm i) = Some (insn.StoreImm size dst k i)
store_of (word.Store size) dst k (Register src) = Some (insn.Store size dst src k)
store_of (word.Atomic op size) dst k (Register src) = Some (insn.Atomic op size dst src k)
store_of m dst k a = None

abbrev pub insn_of_two : Mnemonic → Argument → Argument → Option Insn
insn_of_two m (Register dst) a = load_of m dst a
insn_of_two m (Memory dst k) a = store_of m dst k a
insn_of_two m b a = None

abbrev pub insn_of_three : Mnemonic → Argument → Argument → Argument → Option Insn
insn_of_three (word.JumpIf bits condition) (Register left) a (Distance (Short k)) =
    operand_in a >>= λ right. Some (insn.JumpIf bits condition left right k)
insn_of_three word.LoadCell (Register dst) (Imm i) (Imm k) =
    Some (insn.Wide dst (wide.Cell i k))
insn_of_three m a b c = None

abbrev pub insn_with : Mnemonic → Option Argument → Option Argument → Option Argument → Option Insn
insn_with m None None None = insn_of_none m
insn_with m (Some a) None None = insn_of_one m a
insn_with m (Some a) (Some b) None = insn_of_two m a b
insn_with m (Some a) (Some b) (Some c) = insn_of_three m a b c
insn_with m a b c = None

abbrev pub insn_of : Mnemonic → UpToThree Argument → Option Insn
insn_of m a = insn_with m a.first a.second a.third
