use Rattle.std.proofs.Common.{◌∙◌, List, ap, length, sym}
use Rattle.std.proofs.lemmas.List.{length-map}
use Rattle.clap.specs.Words.{Text, found_of}
use Rattle.cli_base.proofs.Attributes.{texts_none, texts_some}
use Rattle.cli_base.proofs.app_options.count_given.Goals as goal

pub returns-in-Some : goal.returns-in-Some
returns-in-Some c =
    sym (length-map _ (λ text. text.now)) ∙ ap (λ (l : List Text). length l)
    (texts_some (found_of c.args.found.now) _ _ _ c.get_strs.ensures c.in-Some.is)

pub returns-in-None : goal.returns-in-None
returns-in-None c = ap (λ (l : List Text). length l)
    (texts_none (found_of c.args.found.now) _ _ c.get_strs.ensures c.in-None.is)
