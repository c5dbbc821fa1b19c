use Rattle.std.proofs.Common.{rules, ◌≡◌, ◌∙◌, ap, Some}
use Rattle.clap.specs.declared.builder.action.ArgAction.TheVariants.{Set}
use Rattle.clap.specs.declared.builder.arg.Arg.{Arg}
use Rattle.clap.specs.declared.builder.value_parser.ValueParser.TheVariants.{Signed}
use Rattle.cli_base.specs.Grammar.{taking_value}
use Rattle.cli_base.proofs.Aliased.{with_limits}
use Rattle.cli_base.proofs.argument.number.Goals as goal

pub returns-clause-rule : goal.returns-clause-rule
returns-clause-rule c =
    let parser = Signed c.args.limits.0 c.args.limits.1 in
    let given : c.value_parser.result.value_parser ≡ Some parser = search rules in
    with_limits c.option.result c.required.result c.value_parser.result c.args.required parser
    (taking_value c.args.name.now Set) c.option.ensures.rule c.required.ensures
    c.value_parser.ensures.others given

pub returns-clause-local : goal.returns-clause-local
returns-clause-local c =
    ap (λ (a : Arg). a.global) c.value_parser.ensures.others
    ∙ ap (λ (a : Arg). a.global) c.required.ensures ∙ c.option.ensures.local
