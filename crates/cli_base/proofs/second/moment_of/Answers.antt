use Rattle.std.proofs.Common.{◌∙◌, ap₂}
use Rattle.cli_base.specs.Seconds.{moment_by}
use Rattle.cli_base.proofs.second.moment_of.Goals as goal

pub returns : goal.returns
returns c =
    c.moment_by.ensures ∙ ap₂ moment_by c.optional_text.ensures c.optional_text-2.ensures
