-- The assembler's own vocabulary: the first entry of its tables with this text.
use Rattle.std.specs.Prelude.{Option}
use Rattle.std.specs.Str.{bytes_eq}
use Rattle.std.specs.List.{find}
use Rattle.bpf_insn.specs.declared.reg.Reg.{Reg}
use Rattle.bpf_text.specs.declared.mnemonic.Mnemonic.{Mnemonic}
use Rattle.bpf_text.specs.declared.vocabulary.TheConstants.{MNEMONICS, REGISTERS}
use Rattle.bpf_text.specs.Listing.{register_text}
use Rattle.bpf_text.specs.Statements.{insn_of}
use Rattle.bpf_text.specs.Tokens.{Name}
use Rattle.bpf_text.specs.Vocabulary.{Vocabulary}
use Rattle.bpf_text.specs.Words.{word_of}

unfoldable pub mnemonic_named : Name → Option Mnemonic
mnemonic_named w = find (λ m. bytes_eq w (word_of m)) MNEMONICS

unfoldable pub register_named : Name → Option Reg
register_named w = find (λ r. bytes_eq w (register_text r)) REGISTERS

abbrev pub tables : Vocabulary
tables = record {
  mnemonic_named = mnemonic_named;
  register_named = register_named;
  insn_of = insn_of;
}
