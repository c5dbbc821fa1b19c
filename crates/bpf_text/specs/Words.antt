-- Mnemonics: a stem for the operation and a suffix for its width or size.
use Rattle.std.specs.Prelude.{ℕ, List, ◌++◌, codes}
use Rattle.bpf_insn.specs.declared.operand.AluOp.{AluOp}
use Rattle.bpf_insn.specs.declared.operand.AluOp.TheVariants as alu
use Rattle.bpf_insn.specs.declared.operand.Bits.{Bits}
use Rattle.bpf_insn.specs.declared.operand.Bits.TheVariants.{Bits64, Bits32}
use Rattle.bpf_insn.specs.declared.operand.ByteOrder.{ByteOrder}
use Rattle.bpf_insn.specs.declared.operand.ByteOrder.TheVariants as order
use Rattle.bpf_insn.specs.declared.operand.Condition.{Condition}
use Rattle.bpf_insn.specs.declared.operand.Condition.TheVariants as jump
use Rattle.bpf_insn.specs.declared.operand.Size.{Size}
use Rattle.bpf_insn.specs.declared.operand.Size.TheVariants as size
use Rattle.bpf_insn.specs.declared.operand.EndSize.{EndSize}
use Rattle.bpf_insn.specs.declared.operand.EndSize.TheVariants as end
use Rattle.bpf_insn.specs.declared.operand.Extension.{Extension}
use Rattle.bpf_insn.specs.declared.operand.Extension.TheVariants as extend
use Rattle.bpf_insn.specs.declared.operand.LoadKind.{LoadKind}
use Rattle.bpf_insn.specs.declared.operand.LoadKind.TheVariants as load
use Rattle.bpf_insn.specs.declared.operand.AtomicOp.{AtomicOp}
use Rattle.bpf_insn.specs.declared.operand.AtomicOp.TheVariants as atomic
use Rattle.bpf_insn.specs.declared.operand.AtomicSize.{AtomicSize}
use Rattle.bpf_insn.specs.declared.operand.AtomicSize.TheVariants as atomics
use Rattle.bpf_text.specs.declared.mnemonic.Mnemonic.{Mnemonic}
use Rattle.bpf_text.specs.declared.mnemonic.Mnemonic.TheVariants.{Alu, Mov, MovSx, Neg, End, Jump}
use Rattle.bpf_text.specs.declared.mnemonic.Mnemonic.TheVariants.{JumpLong, JumpIf, Call, Exit}
use Rattle.bpf_text.specs.declared.mnemonic.Mnemonic.TheVariants.{Load, StoreImm, Store, Atomic}
use Rattle.bpf_text.specs.declared.mnemonic.Mnemonic.TheVariants.{LoadNumber, LoadMap, LoadCell}

abbrev pub alu_stem : AluOp → List ℕ
alu_stem alu.Add = codes "add"
alu_stem alu.Sub = codes "sub"
alu_stem alu.Mul = codes "mul"
alu_stem alu.Div = codes "div"
alu_stem alu.Sdiv = codes "sdiv"
alu_stem alu.Or = codes "or"
alu_stem alu.And = codes "and"
alu_stem alu.Lsh = codes "lsh"
alu_stem alu.Rsh = codes "rsh"
alu_stem alu.Mod = codes "mod"
alu_stem alu.Smod = codes "smod"
alu_stem alu.Xor = codes "xor"
alu_stem alu.Arsh = codes "arsh"

abbrev pub condition_stem : Condition → List ℕ
condition_stem jump.Eq = codes "jeq"
condition_stem jump.Gt = codes "jgt"
condition_stem jump.Ge = codes "jge"
condition_stem jump.Set = codes "jset"
condition_stem jump.Ne = codes "jne"
condition_stem jump.Sgt = codes "jsgt"
condition_stem jump.Sge = codes "jsge"
condition_stem jump.Lt = codes "jlt"
condition_stem jump.Le = codes "jle"
condition_stem jump.Slt = codes "jslt"
condition_stem jump.Sle = codes "jsle"

-- the mnemonics of fetching operations begin with f
abbrev pub atomic_stem : AtomicOp → List ℕ
atomic_stem atomic.Add = codes "aadd"
atomic_stem atomic.Or = codes "aor"
atomic_stem atomic.And = codes "aand"
atomic_stem atomic.Xor = codes "axor"
atomic_stem atomic.FetchAdd = codes "fadd"
atomic_stem atomic.FetchOr = codes "for"
atomic_stem atomic.FetchAnd = codes "fand"
atomic_stem atomic.FetchXor = codes "fxor"
atomic_stem atomic.Exchange = codes "xchg"
atomic_stem atomic.CompareExchange = codes "cmpxchg"

abbrev pub order_stem : ByteOrder → List ℕ
order_stem order.Little = codes "le"
order_stem order.Big = codes "be"
order_stem order.Swap = codes "swap"

-- a sign-extending load has an s
abbrev pub load_stem : LoadKind → List ℕ
load_stem load.Byte = codes "ldx"
load_stem load.Half = codes "ldx"
load_stem load.Word = codes "ldx"
load_stem load.Double = codes "ldx"
load_stem load.SignedByte = codes "ldsx"
load_stem load.SignedHalf = codes "ldsx"
load_stem load.SignedWord = codes "ldsx"

abbrev pub load_suffix : LoadKind → List ℕ
load_suffix load.Byte = codes "b"
load_suffix load.Half = codes "h"
load_suffix load.Word = codes "w"
load_suffix load.Double = codes "dw"
load_suffix load.SignedByte = codes "b"
load_suffix load.SignedHalf = codes "h"
load_suffix load.SignedWord = codes "w"

abbrev pub size_suffix : Size → List ℕ
size_suffix size.Byte = codes "b"
size_suffix size.Half = codes "h"
size_suffix size.Word = codes "w"
size_suffix size.Double = codes "dw"

abbrev pub atomic_suffix : AtomicSize → List ℕ
atomic_suffix atomics.Word = codes "w"
atomic_suffix atomics.Double = codes "dw"

abbrev pub end_suffix : EndSize → List ℕ
end_suffix end.Half = codes "16"
end_suffix end.Word = codes "32"
end_suffix end.Double = codes "64"

-- the number of bits that are extended, and w if the result is 32 bits
abbrev pub extension_suffix : Extension → List ℕ
extension_suffix extend.Byte64 = codes "8"
extension_suffix extend.Half64 = codes "16"
extension_suffix extend.Word64 = codes "32"
extension_suffix extend.Byte32 = codes "8w"
extension_suffix extend.Half32 = codes "16w"

abbrev pub bits_suffix : Bits → List ℕ
bits_suffix Bits64 = codes ""
bits_suffix Bits32 = codes "32"

abbrev pub stem_of : Mnemonic → List ℕ
stem_of (Alu bits op) = alu_stem op
stem_of (Mov bits) = codes "mov"
stem_of (MovSx extension) = codes "movsx"
stem_of (Neg bits) = codes "neg"
stem_of (End order size) = order_stem order
stem_of Jump = codes "ja"
stem_of JumpLong = codes "jal"
stem_of (JumpIf bits condition) = condition_stem condition
stem_of Call = codes "call"
stem_of Exit = codes "exit"
stem_of (Load kind) = load_stem kind
stem_of (StoreImm size) = codes "st"
stem_of (Store size) = codes "stx"
stem_of (Atomic op size) = atomic_stem op
stem_of LoadNumber = codes "lddw"
stem_of LoadMap = codes "ldmap"
stem_of LoadCell = codes "ldcell"

abbrev pub suffix_of : Mnemonic → List ℕ
suffix_of (Alu bits op) = bits_suffix bits
suffix_of (Mov bits) = bits_suffix bits
suffix_of (MovSx extension) = extension_suffix extension
suffix_of (Neg bits) = bits_suffix bits
suffix_of (End order size) = end_suffix size
suffix_of (JumpIf bits condition) = bits_suffix bits
suffix_of (Load kind) = load_suffix kind
suffix_of (StoreImm size) = size_suffix size
suffix_of (Store size) = size_suffix size
suffix_of (Atomic op size) = atomic_suffix size
suffix_of m = codes ""

-- the mnemonic of an instruction
abbrev pub word_of : Mnemonic → List ℕ
word_of m = stem_of m ++ suffix_of m
