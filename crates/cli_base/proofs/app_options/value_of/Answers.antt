use Rattle.cli_base.proofs.Attributes.{stripped}
use Rattle.cli_base.proofs.app_options.value_of.Goals as goal

pub returns : goal.returns
returns c =
    stripped c.args.text.now c.args.name.now c.strip_prefix.result c.strip_prefix.ensures.cases
