use Rattle.std.proofs.Common.{◌≡◌, ◌∙◌, rules, sym, true, false}
use Rattle.clap.specs.Words.{found_of, rows_of}
use Rattle.cli_words.proofs.Making.{runs_none, traces_none}
use Rattle.cli_words.proofs.program_words.read_run_command.Goals as goal

pub returns-then-is_text-clause-none : goal.returns-then-is_text-clause-none
returns-then-is_text-clause-none c = λ fault wrong.
    traces_none (rows_of (found_of c.args.found.now)) (c.is_text.ensures.0 c.if-is_text.true)

pub returns-in-Ok-clause-made : goal.returns-in-Ok-clause-made
returns-in-Ok-clause-made c = record {
  run_is = c.in-Ok.ensures.given;
  untraced = λ traces. let bad : true ≡ false = sym (c.is_text.ensures.1 traces)
      ∙ c.if-is_text.false in cc;
}

pub returns-in-Err-clause-none : goal.returns-in-Err-clause-none
returns-in-Err-clause-none c = λ fault wrong.
    runs_none (rows_of (found_of c.args.found.now))
    (c.in-Err.ensures.lacking fault (search rules))
