use Rattle.std.proofs.Common.{rules}
use Rattle.std.specs.Prelude.{option_copied}
use Rattle.clap.specs.Words.{found_of, rows_of}
use Rattle.cli_tool_words.proofs.Lacking.{no_value}
use Rattle.cli_tool_words.proofs.Making.{stages_none}
use Rattle.cli_tool_words.proofs.stage_words.read_stage.Goals as goal

pub returns-in_err-action-clause-none : goal.returns-in_err-action-clause-none
returns-in_err-action-clause-none c = λ fault is.
    stages_none (rows_of (found_of c.args.found.now)) (λ args has.
    c.in_err-action.ensures.lacking fault (search rules) args.action has.action)

pub returns-in_err-user-clause-none : goal.returns-in_err-user-clause-none
returns-in_err-user-clause-none c = λ fault is.
    stages_none (rows_of (found_of c.args.found.now)) (λ args has.
    c.in_err-user.ensures.lacking fault (search rules) (option_copied args.user) has.user)

pub returns-in_err-because-clause-none : goal.returns-in_err-because-clause-none
returns-in_err-because-clause-none c = λ fault is.
    stages_none (rows_of (found_of c.args.found.now)) (λ args has.
    c.in_err-because.ensures.lacking fault (search rules) (option_copied args.because)
    has.because)

pub returns-in_err-operators-clause-none : goal.returns-in_err-operators-clause-none
returns-in_err-operators-clause-none c = λ fault is.
    stages_none (rows_of (found_of c.args.found.now)) (λ args has.
    no_value _ args.operators.items (c.in_err-operators.ensures.lacking fault (search rules))
    has.operators)

pub returns-clause-made : goal.returns-clause-made
returns-clause-made c = record {
  action = c.in_ok-action.ensures.given;
  operators = c.in_ok-operators.ensures.given;
  folder = c.folder_of.ensures;
  log = c.optional_text.ensures;
  user = c.in_ok-user.ensures.given;
  because = c.in_ok-because.ensures.given;
  no_load = c.flag_of.ensures;
  dry_run = c.flag_of-2.ensures;
  anyway = c.flag_of-3.ensures;
  other_server = c.flag_of-4.ensures;
}
