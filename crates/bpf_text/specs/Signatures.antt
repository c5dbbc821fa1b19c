-- The signature of each instruction: the operands after its mnemonic.
use Rattle.std.specs.Prelude.{◌≡◌, ◌↔◌, Option, Some, None, Bool, true, false, ◌&&◌, IsTrue}
use Rattle.bpf_insn.specs.declared.insn.Insn.{Insn}
use Rattle.bpf_insn.specs.declared.operand.Distance.TheVariants.{Short, Long}
use Rattle.bpf_text.specs.declared.argument.Argument.{Argument}
use Rattle.bpf_text.specs.declared.argument.Argument.TheVariants as argument
use Rattle.bpf_text.specs.declared.three.UpToThree.{UpToThree}
use Rattle.bpf_text.specs.declared.mnemonic.Mnemonic.{Mnemonic}
use Rattle.bpf_text.specs.declared.mnemonic.Mnemonic.TheVariants as word
use Rattle.bpf_text.specs.declared.signature.OperandKind.{OperandKind}
use Rattle.bpf_text.specs.declared.signature.OperandKind.TheVariants.{Register, Source, Imm, Number}
use Rattle.bpf_text.specs.declared.signature.OperandKind.TheVariants.{Memory, ShortWay, LongWay}
use Rattle.bpf_text.specs.Arguments.{mnemonic_of, arguments_of}
use Rattle.bpf_text.specs.Three.{none, one, two, three}

-- the kinds of operands that each mnemonic requires
abbrev pub kinds_of : Mnemonic → UpToThree OperandKind
kinds_of (word.Alu bits op) = two Register Source
kinds_of (word.Mov bits) = two Register Source
kinds_of (word.MovSx extension) = two Register Register
kinds_of (word.Neg bits) = one Register
kinds_of (word.End order size) = one Register
kinds_of word.Jump = one ShortWay
kinds_of word.JumpLong = one LongWay
kinds_of (word.JumpIf bits condition) = three Register Source ShortWay
kinds_of word.Call = one Imm
kinds_of word.Exit = none
kinds_of (word.Load kind) = two Register Memory
kinds_of (word.StoreImm size) = two Memory Imm
kinds_of (word.Store size) = two Memory Register
kinds_of (word.Atomic op size) = two Memory Register
kinds_of word.LoadNumber = two Register Number
kinds_of word.LoadMap = two Register Imm
kinds_of word.LoadCell = three Register Imm Imm

-- an argument is of a kind
abbrev pub is_of : OperandKind → Argument → Bool
is_of Register (argument.Register r) = true
is_of Source (argument.Register r) = true
is_of Source (argument.Imm k) = true
is_of Imm (argument.Imm k) = true
is_of Number (argument.Number n) = true
is_of Memory (argument.Memory r k) = true
is_of ShortWay (argument.Distance (Short k)) = true
is_of LongWay (argument.Distance (Long k)) = true
is_of k a = false

abbrev pub is_of_if : Option OperandKind → Option Argument → Bool
is_of_if None None = true
is_of_if (Some k) (Some a) = is_of k a
is_of_if k a = false

abbrev pub are_of : UpToThree OperandKind → UpToThree Argument → Bool
are_of k a =
    is_of_if k.first a.first && (is_of_if k.second a.second && is_of_if k.third a.third)

-- arguments have a mnemonic's kinds exactly if they are those of an instruction with it
abbrev pub KindsAgree : Type 0
KindsAgree =
    (m : Mnemonic) (a : UpToThree Argument) →
    IsTrue (are_of (kinds_of m) a) ↔ ((i : Insn) × (mnemonic_of i ≡ m) × (arguments_of i ≡ a))
