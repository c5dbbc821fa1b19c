use Rattle.std.proofs.Common.{rules, ◌≡◌, length, take, false}
use Rattle.std.specs.Str.{bytes_eq}
use Rattle.bpf_text.specs.Words.{stem_of, suffix_of}
use Rattle.bpf_text.proofs.Spelled.{no_stem}
use Rattle.bpf_text.proofs.vocabulary.is_word.Goals as goal

pub returns-in-None : goal.returns-in-None
returns-in-None c =
    let stem : bytes_eq (take (length (stem_of c.args.mnemonic)) c.args.word.now)
    (stem_of c.args.mnemonic) ≡ false = search rules in
    no_stem c.args.word.now (stem_of c.args.mnemonic) (suffix_of c.args.mnemonic) stem
