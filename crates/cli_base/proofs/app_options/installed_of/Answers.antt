use Rattle.std.proofs.Common.{◌∙◌, ap}
use Rattle.cli_base.specs.AppOptions.{install_day}
use Rattle.cli_base.proofs.app_options.installed_of.Goals as goal

pub returns : goal.returns
returns c = c.install_day.ensures ∙ ap install_day c.optional_text.ensures
