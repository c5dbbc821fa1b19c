use Rattle.std.proofs.Common.{◌≡◌, drop}
use Rattle.cli_base.specs.AppOptions.{value_in}
use Rattle.cli_base.proofs.Attributes.{texts}
use Rattle.cli_base.proofs.app_options.value_in.Given as goal

abbrev pub invariant-loop-text : goal.invariant-loop-text
invariant-loop-text l =
    value_in (texts (drop l.text-index l.given)) l.name ≡ value_in (texts l.given) l.name
