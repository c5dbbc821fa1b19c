-- A vocabulary: from texts to mnemonics and registers, and from a mnemonic with its arguments to
-- the instruction.
use Rattle.std.specs.Prelude.{◌≡◌, ◌↔◌, Option, Some}
use Rattle.bpf_insn.specs.declared.reg.Reg.{Reg}
use Rattle.bpf_insn.specs.declared.insn.Insn.{Insn}
use Rattle.bpf_text.specs.declared.argument.Argument.{Argument}
use Rattle.bpf_text.specs.declared.mnemonic.Mnemonic.{Mnemonic}
use Rattle.bpf_text.specs.declared.three.UpToThree.{UpToThree}
use Rattle.bpf_text.specs.Arguments.{mnemonic_of, arguments_of}
use Rattle.bpf_text.specs.Listing.{register_text}
use Rattle.bpf_text.specs.Tokens.{Name}
use Rattle.bpf_text.specs.Words.{word_of}

pub record Vocabulary : Type 0 where
  pub mnemonic_named : Name → Option Mnemonic
  pub register_named : Name → Option Reg
  pub insn_of : Mnemonic → UpToThree Argument → Option Insn

-- each lookup is the exact inverse, of the text of mnemonics and registers, and of an instruction's
-- parts
pub record IsExact (v : Vocabulary) : Type 0 where
  pub mnemonics : (w : Name) (m : Mnemonic) → (v.mnemonic_named w ≡ Some m) ↔ (w ≡ word_of m)
  pub registers : (w : Name) (r : Reg) → (v.register_named w ≡ Some r) ↔ (w ≡ register_text r)
  pub insns :
      (m : Mnemonic) (a : UpToThree Argument) (i : Insn) →
      (v.insn_of m a ≡ Some i) ↔ ((mnemonic_of i ≡ m) × (arguments_of i ≡ a))
