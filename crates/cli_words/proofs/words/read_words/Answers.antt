use Rattle.std.proofs.Common.{◌≡◌, ◌∙◌, ap, map, refl, true, Err}
use Rattle.clap.specs.Words.{is_simple_and_free, subcommand_rows_of}
use Rattle.cli_base.specs.Grammar.{app_of_rows}
use Rattle.cli_base.proofs.Parsed.{of_grammar}
use Rattle.cli_base.proofs.Requested.{asks_for, asks_for_nothing}
use Rattle.cli_words.specs.Grammar.{commands, names}
use Rattle.cli_words.specs.Requests.{AskForNothing}
use Rattle.cli_words.specs.Words.{VerbMakes}
use Rattle.cli_words.proofs.words.read_words.Goals as goal

are_simple : is_simple_and_free commands ≡ true
are_simple = refl

pub read_matches-requires : goal.read_matches-requires
read_matches-requires g c = ap is_simple_and_free c.command_rows.ensures.grammar ∙ are_simple

pub returns-in-Err-clause-fault : goal.returns-in-Err-clause-fault
returns-in-Err-clause-fault g c =
    let words = map g.S.AsStr.text c.args.words.now in
    of_grammar (app_of_rows c.command_rows.result.now) commands (AskForNothing words) words
    c.in-Err.fault c.command_rows.ensures.grammar c.in-Err.ensures.fault

pub returns-in-Ok-command_of-clause-request : goal.returns-in-Ok-command_of-clause-request
returns-in-Ok-command_of-clause-request g c =
    asks_for VerbMakes (app_of_rows c.command_rows.result.now) commands names
    (map g.S.AsStr.text c.args.words.now) (subcommand_rows_of c.in-Ok.matches)
    c.in-Ok-command_of.command c.command_rows.ensures.grammar c.in-Ok.ensures.rows
    c.in-Ok.ensures.fits c.in-Ok-command_of.ensures.made

pub returns-in-Err-Wrong-clause-fault : goal.returns-in-Err-Wrong-clause-fault
returns-in-Err-Wrong-clause-fault g c =
    asks_for_nothing VerbMakes (app_of_rows c.command_rows.result.now) commands names
    (map g.S.AsStr.text c.args.words.now) (subcommand_rows_of c.in-Ok.matches)
    c.command_rows.ensures.grammar c.in-Ok.ensures.rows c.in-Ok.ensures.fits
    (c.command_of.ensures.none c.in-Err-Wrong.fault
    (c.in-Err-Wrong.is ∙ ap Err c.in-Err-Wrong.field-0-is))
