-- Results that are computed from words are words.
use Rattle.std.proofs.Common.{ℕ, ◌%◌, ◌^◌, ◌<◌, ℤ, pos, negsuc, FitsSigned, arith}
use Rattle.std.specs.Int.{w32, swap_bytes}
use mir.Val.{bits}
use Rattle.std.proofs.lemmas.Int.{ints}
use Rattle.bpf_insn.specs.declared.operand.AluOp.{AluOp}
use Rattle.bpf_insn.specs.declared.operand.AluOp.TheVariants.{Sub}
use Rattle.bpf_insn.specs.declared.operand.Bits.{Bits}
use Rattle.bpf_insn.specs.declared.operand.Bits.TheVariants.{Bits64, Bits32}
use Rattle.bpf_insn.specs.declared.operand.ByteOrder.{ByteOrder}
use Rattle.bpf_insn.specs.declared.operand.ByteOrder.TheVariants as order
use Rattle.bpf_insn.specs.declared.operand.EndSize.{EndSize}
use Rattle.bpf_insn.specs.declared.operand.EndSize.TheVariants as end
use Rattle.bpf_insn.specs.declared.operand.Extension.{Extension}
use Rattle.bpf_insn.specs.declared.operand.Extension.TheVariants as extend
use Rattle.bpf_insn.specs.declared.operand.LoadKind.{LoadKind}
use Rattle.bpf_insn.specs.declared.operand.LoadKind.TheVariants as load
use Rattle.bpf_insn.specs.Words.{word_width, word, immediate}
use Rattle.bpf_insn.specs.Arithmetic.{FitsWidth, alu_result, negated}
use Rattle.bpf_insn.specs.Arithmetic.{extended, end_width, reordered}
use Rattle.bpf_semantics.specs.Reads.{load_count, filled}

abbrev pub IsWord : ℕ → Type 0
IsWord n = n < 2 ^ 64

-- ---- arithmetic

-- a number of a class is a word
of_class : (w : Bits) (n : ℕ) → n < 2 ^ bits (word_width w) → IsWord n
of_class Bits64 n h = h
of_class Bits32 n h = omega (arith, h)

word_lt : (w : Bits) (x : ℕ) → IsWord x → word w x < 2 ^ bits (word_width w)
word_lt Bits64 x h = h
word_lt Bits32 x h = omega arith

pub is_word : (w : Bits) (x : ℕ) → IsWord x → IsWord (word w x)
is_word w x h = of_class w (word w x) (word_lt w x h)

pub alu_word : FitsWidth → (w : Bits) (op : AluOp) (x y : ℕ) → IsWord x → IsWord y
    → IsWord (alu_result w op x y)
alu_word fit w op x y p q = of_class w (alu_result w op x y)
    (fit (word_width w) op (word w x) (word w y) (word_lt w x p) (word_lt w y q))

pub negated_word : FitsWidth → (w : Bits) (x : ℕ) → IsWord x → IsWord (negated w x)
negated_word fit w x h = alu_word fit w Sub 0 x (omega arith) h

-- ---- signs and bytes

pub immediate_word : (w : Bits) (k : ℤ) → FitsSigned w32 k → IsWord (immediate w k)
immediate_word Bits64 (pos n) h = omega (arith, ints, h.sfits)
immediate_word Bits64 (negsuc n) h = omega arith
immediate_word Bits32 (pos n) h = omega (arith, ints, h.sfits)
immediate_word Bits32 (negsuc n) h = omega arith

pub extended_word : (e : Extension) (x : ℕ) → IsWord (extended e x)
extended_word extend.Byte64 x = grind (arith, ints)
extended_word extend.Half64 x = grind (arith, ints)
extended_word extend.Word64 x = grind (arith, ints)
extended_word extend.Byte32 x = grind (arith, ints)
extended_word extend.Half32 x = grind (arith, ints)

swapped_word : (size : EndSize) (x : ℕ) → IsWord (swap_bytes (end_width size) x)
swapped_word end.Half x = omega arith
swapped_word end.Word x = omega arith
swapped_word end.Double x = omega arith

pub reordered_word : (o : ByteOrder) (size : EndSize) (x : ℕ) → IsWord (reordered o size x)
reordered_word order.Little end.Half x = omega arith
reordered_word order.Little end.Word x = omega arith
reordered_word order.Little end.Double x = omega arith
reordered_word order.Big size x = swapped_word size (x % 2 ^ bits (end_width size))
reordered_word order.Swap size x = swapped_word size (x % 2 ^ bits (end_width size))

pub filled_word : (kind : LoadKind) (n : ℕ) → n < 256 ^ load_count kind → IsWord (filled kind n)
filled_word load.Byte n h = omega (arith, h)
filled_word load.Half n h = omega (arith, h)
filled_word load.Word n h = omega (arith, h)
filled_word load.Double n h = omega (arith, h)
filled_word load.SignedByte n h = grind (arith, ints)
filled_word load.SignedHalf n h = grind (arith, ints)
filled_word load.SignedWord n h = grind (arith, ints)
