-- A command with a malformed argument makes no command.
use Rattle.std.proofs.Common.{List, codes}
use Rattle.clap.specs.Words.{Row, Text}
use Rattle.cli_base.specs.Runs.{LacksRun}
use Rattle.cli_base.specs.Values.{HasShape, HasText}
use Rattle.cli_base.specs.declared.declared_shape.DeclaredShape.{DeclaredShape}
use Rattle.cli_tool_words.specs.AskWords.{LacksAsk}
use Rattle.cli_tool_words.specs.CheckWords.{LacksCheck}
use Rattle.cli_tool_words.specs.CompletionWords.{LacksShell}
use Rattle.cli_tool_words.specs.DiffWords.{LacksDiff}
use Rattle.cli_tool_words.specs.ReportWords.{LacksReport}
use Rattle.cli_tool_words.specs.SimulateWords.{LacksSimulate}
use Rattle.cli_tool_words.specs.StageWords.{LacksStage}
use Rattle.cli_tool_words.specs.WhyWords.{LacksWhy}
use Rattle.cli_tool_words.specs.Words.{VerbMakesNone}
use Rattle.cli_tool_words.specs.declared.args.ToolCommand.TheVariants as command
use Rattle.cli_tool_words.specs.declared.verb.ToolVerb.TheVariants as verb

pub asks_none : (rows : List Row) → LacksAsk rows → VerbMakesNone verb.Ask rows
asks_none rows lacks (command.Ask args) makes = lacks args makes
asks_none rows lacks command makes = makes

pub checks_none : (rows : List Row) → LacksCheck rows → VerbMakesNone verb.Check rows
checks_none rows lacks (command.Check args) makes = lacks args makes
checks_none rows lacks command makes = makes

pub completes_none : (rows : List Row) → LacksShell rows → VerbMakesNone verb.Completion rows
completes_none rows lacks (command.Completion shell) makes = lacks shell makes
completes_none rows lacks command makes = makes

pub diffs_none : (rows : List Row) → LacksDiff rows → VerbMakesNone verb.Diff rows
diffs_none rows lacks (command.Diff args) makes = lacks args makes
diffs_none rows lacks command makes = makes

pub explains_none : (rows : List Row)
    → ((path : Text) (shape : DeclaredShape) → HasText (codes "IN") rows path
    → ¬ HasShape rows shape)
    → VerbMakesNone verb.Explain rows
explains_none rows lacks (command.Explain path shape) makes =
    lacks path.now shape makes.0 makes.1
explains_none rows lacks command makes = makes

pub orders_none : (rows : List Row)
    → ((path out : Text) → HasText (codes "IN") rows path → ¬ HasText (codes "OUT") rows out)
    → VerbMakesNone verb.Order rows
orders_none rows lacks (command.Order path out) makes = lacks path.now out.now makes.0 makes.1
orders_none rows lacks command makes = makes

pub reports_none : (rows : List Row) → LacksReport rows → VerbMakesNone verb.Report rows
reports_none rows lacks (command.Report args) makes = lacks args makes
reports_none rows lacks command makes = makes

pub simulates_none : (rows : List Row) → LacksSimulate rows → VerbMakesNone verb.Simulate rows
simulates_none rows lacks (command.Simulate args) makes = lacks args makes
simulates_none rows lacks command makes = makes

pub stages_none : (rows : List Row) → LacksStage rows → VerbMakesNone verb.Stage rows
stages_none rows lacks (command.Stage args) makes = lacks args makes
stages_none rows lacks command makes = makes

pub traces_none : (rows : List Row) → LacksRun rows → VerbMakesNone verb.Trace rows
traces_none rows lacks (command.Trace run) makes = lacks run makes
traces_none rows lacks command makes = makes

pub whys_none : (rows : List Row) → LacksWhy rows → VerbMakesNone verb.Why rows
whys_none rows lacks (command.Why args) makes = lacks args makes
whys_none rows lacks command makes = makes
