use Rattle.std.proofs.Common.{◌≡◌, false, map, take}
use Rattle.clap.specs.Words.{shape_of}
use Rattle.clap.specs.declared.builder.command.Command.TheViews.{out-Command as fields_of}
use Rattle.cli_base.specs.Grammar.{command, rule_of_argument}
use Rattle.cli_base.proofs.grammar.command_of.Given as goal

abbrev pub invariant-loop-argument : goal.invariant-loop-argument
invariant-loop-argument g l = record {
  shape : shape_of l.command
      ≡ command l.row.name.now (map rule_of_argument (take l.argument-index l.row.arguments.now));
  local : (fields_of l.command).has_globals ≡ false;
}
