use Rattle.std.proofs.Common.{inl, inr, map}
use Rattle.cli_base.proofs.Parsed.{help_is, wrong_is}
use Rattle.cli_words.specs.Grammar.{commands}
use Rattle.cli_words.specs.Requests.{AskForNothing}
use Rattle.cli_commands.proofs.status.command.Goals as goal

pub returns-in-Err-clause-done : goal.returns-in-Err-clause-done
returns-in-Err-clause-done g c zero =
    let words = map g.S.AsStr.text c.args.words.now in
    inl (
      help_is commands (AskForNothing words) words c.in-Err.fault c.in-Err.ensures.fault
          (c.usage-status.ensures.help zero),
      c.usage-status.ensures.silent zero,
    )

pub returns-in-Ok-clause-done : goal.returns-in-Ok-clause-done
returns-in-Ok-clause-done g c zero =
    inr (c.in-Ok.command, c.in-Ok.ensures.request, c.carry_out-status.ensures.done zero)

pub returns-in-Err-clause-wrong : goal.returns-in-Err-clause-wrong
returns-in-Err-clause-wrong g c two =
    let words = map g.S.AsStr.text c.args.words.now in
    wrong_is commands (AskForNothing words) words c.in-Err.fault c.in-Err.ensures.fault
    (c.usage-status.ensures.wrong two)
