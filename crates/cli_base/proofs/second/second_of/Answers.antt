use Rattle.std.proofs.Common.{◌∙◌, ap}
use Rattle.cli_base.specs.Seconds.{second_by}
use Rattle.cli_base.proofs.second.second_of.Goals as goal

pub returns : goal.returns
returns c = c.second_by.ensures ∙ ap second_by c.optional_text.ensures
