use Rattle.std.proofs.Common.{◌∙◌, ap}
use Rattle.clap.specs.Simple.{shape_of_fields}
use Rattle.clap.specs.Words.{App}
use Rattle.cli_base.proofs.Built.{all_arguments, one_more_argument, still_local}
use Rattle.cli_base.proofs.grammar.command_of.Goals as goal

pub loop-argument-init : goal.loop-argument-init
loop-argument-init g c = record {
  shape = ap shape_of_fields c.about-command.ensures ∙ ap (λ (a : App). a.top) c.new.ensures.app;
  local = rw c.about-command.ensures c.new.ensures.local;
}

pub loop-argument-preserved : goal.loop-argument-preserved
loop-argument-preserved g c = record {
  shape = one_more_argument c.args.row.now.name.now c.args.row.now.arguments.now
      c.loop-argument.argument-index _ c.loop-argument.command c.in_ok-command.command
      c.in_ok-arg.arg c.loop-argument-test.true c.loop-argument.invariant.shape
      c.in_ok-arg.ensures.rule c.in_ok-arg.ensures.local c.in_ok-command.ensures;
  local = still_local c.loop-argument.command c.in_ok-command.command c.in_ok-arg.arg
      c.in_ok-command.ensures c.in_ok-arg.ensures.local c.loop-argument.invariant.local;
}

pub returns-in-Some : goal.returns-in-Some
returns-in-Some g c = record {
  shape = ap shape_of_fields c.after_help.ensures
      ∙ all_arguments c.args.row.now.name.now c.args.row.now.arguments.now
      c.loop-argument.argument-index c.loop-argument.command c.loop-argument-test.false
      c.loop-argument.invariant.shape;
  local = rw c.after_help.ensures c.loop-argument.invariant.local;
}

pub returns-in-None : goal.returns-in-None
returns-in-None g c = record {
  shape = all_arguments c.args.row.now.name.now c.args.row.now.arguments.now
      c.loop-argument.argument-index c.loop-argument.command c.loop-argument-test.false
      c.loop-argument.invariant.shape;
  local = c.loop-argument.invariant.local;
}
