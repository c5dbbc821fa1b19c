use Rattle.std.proofs.Common.{◌∙◌, ap}
use Rattle.clap.specs.declared.builder.arg.Arg.{Arg}
use Rattle.cli_base.specs.Grammar.{named}
use Rattle.cli_base.proofs.Aliased.{with_value}
use Rattle.cli_base.proofs.argument.option.Goals as goal

pub returns-clause-rule : goal.returns-clause-rule
returns-clause-rule c =
    with_value c.named.result c.value_name.result c.args.value
    (named c.args.name.now c.args.action) c.named.ensures.rule c.value_name.ensures

pub returns-clause-local : goal.returns-clause-local
returns-clause-local c =
    ap (λ (a : Arg). a.global) c.value_name.ensures ∙ c.named.ensures.local
