use Rattle.std.proofs.Common.{◌∙◌, List, ap}
use Rattle.clap.specs.Words.{Text, found_of}
use Rattle.cli_base.specs.AppOptions.{value_in}
use Rattle.cli_base.proofs.Attributes.{texts_none, texts_some}
use Rattle.cli_base.proofs.app_options.attribute_of.Goals as goal

pub returns-in-Some : goal.returns-in-Some
returns-in-Some c = c.value_in.ensures
    ∙ ap (λ (l : List Text). value_in l c.args.name.now)
    (texts_some (found_of c.args.found.now) _ _ _ c.get_strs.ensures c.in-Some.is)

pub returns-in-None : goal.returns-in-None
returns-in-None c =
    ap (λ (l : List Text). value_in l c.args.name.now)
    (texts_none (found_of c.args.found.now) _ _ c.get_strs.ensures c.in-None.is)
