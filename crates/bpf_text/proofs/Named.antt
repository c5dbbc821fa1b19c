-- Each mnemonic and each register is found by its text: one computation for each text. The last
-- line of a list takes the remaining cases in turn.
use Rattle.std.proofs.Common.{◌≡◌, ℕ, List, [], ◌∷◌, length, Some}
use Rattle.std.proofs.Common.{Bool, true, false, ◌&&◌, nat_le, refl}
use Rattle.std.specs.List.{list_all}
use Rattle.bpf_insn.specs.declared.reg.Reg.{Reg}
use Rattle.bpf_insn.specs.declared.reg.Reg.TheVariants.{R0}
use Rattle.bpf_insn.specs.declared.operand.AluOp.{AluOp}
use Rattle.bpf_insn.specs.declared.operand.AluOp.TheVariants as alu
use Rattle.bpf_insn.specs.declared.operand.Bits.{Bits}
use Rattle.bpf_insn.specs.declared.operand.Bits.TheVariants.{Bits64, Bits32}
use Rattle.bpf_insn.specs.declared.operand.ByteOrder.{ByteOrder}
use Rattle.bpf_insn.specs.declared.operand.ByteOrder.TheVariants as order
use Rattle.bpf_insn.specs.declared.operand.Condition.{Condition}
use Rattle.bpf_insn.specs.declared.operand.Condition.TheVariants as jump
use Rattle.bpf_insn.specs.declared.operand.Size.{Size}
use Rattle.bpf_insn.specs.declared.operand.Size.TheVariants as size
use Rattle.bpf_insn.specs.declared.operand.EndSize.{EndSize}
use Rattle.bpf_insn.specs.declared.operand.EndSize.TheVariants as end
use Rattle.bpf_insn.specs.declared.operand.Extension.{Extension}
use Rattle.bpf_insn.specs.declared.operand.Extension.TheVariants as extend
use Rattle.bpf_insn.specs.declared.operand.LoadKind.{LoadKind}
use Rattle.bpf_insn.specs.declared.operand.LoadKind.TheVariants as load
use Rattle.bpf_insn.specs.declared.operand.AtomicOp.{AtomicOp}
use Rattle.bpf_insn.specs.declared.operand.AtomicOp.TheVariants as atomic
use Rattle.bpf_insn.specs.declared.operand.AtomicSize.{AtomicSize}
use Rattle.bpf_insn.specs.declared.operand.AtomicSize.TheVariants as atomics
use Rattle.bpf_text.specs.declared.mnemonic.Mnemonic.{Mnemonic}
use Rattle.bpf_text.specs.declared.mnemonic.Mnemonic.TheVariants as word
use Rattle.bpf_text.specs.Words.{word_of}
use Rattle.bpf_text.specs.Listing.{register_text}
use Rattle.lexing.specs.Letter.{is_letter, is_word_byte}
use Rattle.bpf_text.specs.Tables.{mnemonic_named, register_named}

-- a letter, and then letters, digits and _, at most 32 in all
abbrev pub is_word_text : List ℕ → Bool
is_word_text [] = false
is_word_text (c ∷ w) = is_letter c && (list_all is_word_byte w && nat_le (length (c ∷ w)) 32)

pub record IsNamed (m : Mnemonic) : Type 0 where
  pub found : mnemonic_named (word_of m) ≡ Some m
  pub is_text : is_word_text (word_of m) ≡ true

pub record IsRegisterNamed (r : Reg) : Type 0 where
  pub found : register_named (register_text r) ≡ Some r
  pub is_text : is_word_text (register_text r) ≡ true

pub register_is_named : (r : Reg) → IsRegisterNamed r
unfolding register_named
register_is_named R0 = record { found = refl; is_text = refl }
register_is_named r = record { found = refl; is_text = refl }

alu_named : (bits : Bits) (op : AluOp) → IsNamed (word.Alu bits op)
unfolding mnemonic_named
alu_named Bits64 alu.Add = record { found = refl; is_text = refl }
alu_named Bits32 alu.Add = record { found = refl; is_text = refl }
alu_named bits op = record { found = refl; is_text = refl }

extension_named : (extension : Extension) → IsNamed (word.MovSx extension)
unfolding mnemonic_named
extension_named extend.Byte64 = record { found = refl; is_text = refl }
extension_named extension = record { found = refl; is_text = refl }

end_named : (order : ByteOrder) (size : EndSize) → IsNamed (word.End order size)
unfolding mnemonic_named
end_named order.Little end.Half = record { found = refl; is_text = refl }
end_named order.Big end.Half = record { found = refl; is_text = refl }
end_named order.Swap end.Half = record { found = refl; is_text = refl }
end_named order size = record { found = refl; is_text = refl }

condition_named : (bits : Bits) (condition : Condition) → IsNamed (word.JumpIf bits condition)
unfolding mnemonic_named
condition_named Bits64 jump.Eq = record { found = refl; is_text = refl }
condition_named Bits32 jump.Eq = record { found = refl; is_text = refl }
condition_named bits condition = record { found = refl; is_text = refl }

load_named : (kind : LoadKind) → IsNamed (word.Load kind)
unfolding mnemonic_named
load_named load.Byte = record { found = refl; is_text = refl }
load_named kind = record { found = refl; is_text = refl }

store_imm_named : (size : Size) → IsNamed (word.StoreImm size)
unfolding mnemonic_named
store_imm_named size.Byte = record { found = refl; is_text = refl }
store_imm_named size = record { found = refl; is_text = refl }

store_named : (size : Size) → IsNamed (word.Store size)
unfolding mnemonic_named
store_named size.Byte = record { found = refl; is_text = refl }
store_named size = record { found = refl; is_text = refl }

atomic_named : (size : AtomicSize) (op : AtomicOp) → IsNamed (word.Atomic op size)
unfolding mnemonic_named
atomic_named atomics.Word atomic.Add = record { found = refl; is_text = refl }
atomic_named atomics.Double atomic.Add = record { found = refl; is_text = refl }
atomic_named size op = record { found = refl; is_text = refl }

pub is_named : (m : Mnemonic) → IsNamed m
unfolding mnemonic_named
is_named (word.Alu bits op) = alu_named bits op
is_named (word.MovSx extension) = extension_named extension
is_named (word.End order size) = end_named order size
is_named (word.JumpIf bits condition) = condition_named bits condition
is_named (word.Load kind) = load_named kind
is_named (word.StoreImm size) = store_imm_named size
is_named (word.Store size) = store_named size
is_named (word.Atomic op size) = atomic_named size op
is_named (word.Mov Bits64) = record { found = refl; is_text = refl }
is_named (word.Neg Bits64) = record { found = refl; is_text = refl }
is_named m = record { found = refl; is_text = refl }
