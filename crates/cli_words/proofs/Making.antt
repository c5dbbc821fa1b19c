-- A command with a missing argument makes no command.
use Rattle.std.proofs.Common.{List, codes}
use Rattle.clap.specs.Words.{Row}
use Rattle.cli_base.specs.Runs.{LacksRun}
use Rattle.cli_base.specs.Values.{HasText, LacksShort}
use Rattle.cli_words.specs.Words.{LacksPlan, VerbMakesNone}
use Rattle.cli_words.specs.declared.request.Command.TheVariants as command
use Rattle.cli_words.specs.declared.task.Task.TheVariants as task
use Rattle.cli_words.specs.declared.verb.Verb.TheVariants as verb
use Rattle.operator_request.specs.declared.request.OperatorRequest.TheVariants as sent

pub runs_none : (rows : List Row) → LacksRun rows → VerbMakesNone verb.Run rows
runs_none rows lacks (command.Task (task.Run run)) makes = lacks run makes.run_is
runs_none rows lacks command makes = makes

pub traces_none : (rows : List Row) → HasText (codes "trace") rows (codes "true")
    → VerbMakesNone verb.Run rows
traces_none rows traces (command.Task (task.Run run)) makes = makes.untraced traces
traces_none rows traces command makes = makes

pub serves_none : (rows : List Row) → LacksPlan rows → VerbMakesNone verb.Serve rows
serves_none rows lacks (command.Serve args) makes = lacks args.plan makes.2
serves_none rows lacks command makes = makes

pub loads_none : (rows : List Row) → LacksShort (codes "operator") rows
    → VerbMakesNone verb.Load rows
loads_none rows lacks (command.Task (task.Send (sent.Load path) port)) makes = lacks port makes.1
loads_none rows lacks command makes = makes

pub halts_none : (rows : List Row) → LacksShort (codes "operator") rows
    → VerbMakesNone verb.Halt rows
halts_none rows lacks (command.Task (task.Send (sent.Halt appid) port)) makes = lacks port makes.1
halts_none rows lacks command makes = makes

pub resumes_none : (rows : List Row) → LacksShort (codes "operator") rows
    → VerbMakesNone verb.Resume rows
resumes_none rows lacks (command.Task (task.Send (sent.Resume appid) port)) makes =
    lacks port makes.1
resumes_none rows lacks command makes = makes

pub states_none : (rows : List Row) → LacksShort (codes "operator") rows
    → VerbMakesNone verb.State rows
states_none rows lacks (command.Task (task.Send sent.State port)) makes = lacks port makes
states_none rows lacks command makes = makes

pub shows_none : (rows : List Row) → LacksShort (codes "operator") rows
    → VerbMakesNone verb.Show rows
shows_none rows lacks (command.Task (task.Send sent.Show port)) makes = lacks port makes
shows_none rows lacks command makes = makes

pub counts_none : (rows : List Row) → LacksShort (codes "operator") rows
    → VerbMakesNone verb.Cells rows
counts_none rows lacks (command.Task (task.Send sent.Cells port)) makes = lacks port makes
counts_none rows lacks command makes = makes

pub stops_none : (rows : List Row) → LacksShort (codes "operator") rows
    → VerbMakesNone verb.Stop rows
stops_none rows lacks (command.Task (task.Send sent.Stop port)) makes = lacks port makes.0
stops_none rows lacks (command.Task (task.StopAndWait port)) makes = lacks port makes.0
stops_none rows lacks command makes = makes
