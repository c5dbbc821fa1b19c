use Rattle.std.proofs.Common.{◌∙◌, ap, []}
use Rattle.cli_base.specs.Grammar.{app_with, shape_of_row}
use Rattle.cli_base.proofs.Built.{all_commands, one_more_command}
use Rattle.cli_base.proofs.Reading.{required_top}
use Rattle.cli_base.proofs.grammar.grammar_of.Goals as goal

pub loop-row-init : goal.loop-row-init
loop-row-init g c =
    required_top _ _ _ _ _ c.new.ensures.app c.override_help.ensures
    c.subcommand_required-grammar.ensures

pub loop-row-preserved : goal.loop-row-preserved
loop-row-preserved g c =
    one_more_command (app_with []) c.args.rows.now c.loop-row.row-index c.row-item.result
    c.loop-row.grammar c.in_ok-grammar.grammar c.in_ok-command.command c.loop-row-test.true
    c.loop-row.invariant (c.in_ok-command.ensures.shape ∙ ap shape_of_row c.row-item.is)
    c.in_ok-command.ensures.local c.in_ok-grammar.ensures

pub returns : goal.returns
returns g c =
    all_commands c.args.rows.now c.loop-row.row-index c.loop-row.grammar c.loop-row-test.false
    c.loop-row.invariant
