-- Which command the arguments of each command make.
use Rattle.std.specs.Prelude.{List, codes}
use Rattle.clap.specs.Words.{Row}
use Rattle.cli_base.specs.Runs.{HasRun}
use Rattle.cli_base.specs.Values.{HasShape, HasText}
use Rattle.cli_tool_words.specs.AskWords.{HasAsk}
use Rattle.cli_tool_words.specs.CheckWords.{HasCheck}
use Rattle.cli_tool_words.specs.CompletionWords.{HasShell}
use Rattle.cli_tool_words.specs.DiffWords.{HasDiff}
use Rattle.cli_tool_words.specs.ReportWords.{HasReport}
use Rattle.cli_tool_words.specs.SimulateWords.{HasSimulate}
use Rattle.cli_tool_words.specs.StageWords.{HasStage}
use Rattle.cli_tool_words.specs.WhyWords.{HasWhy}
use Rattle.cli_tool_words.specs.declared.args.ToolCommand.{ToolCommand}
use Rattle.cli_tool_words.specs.declared.args.ToolCommand.TheVariants as command
use Rattle.cli_tool_words.specs.declared.verb.ToolVerb.{ToolVerb}
use Rattle.cli_tool_words.specs.declared.verb.ToolVerb.TheVariants as verb

abbrev pub VerbMakes : ToolVerb → List Row → ToolCommand → Type 0
VerbMakes verb.Ask rows (command.Ask args) = HasAsk rows args
VerbMakes verb.Check rows (command.Check args) = HasCheck rows args
VerbMakes verb.Completion rows (command.Completion shell) = HasShell rows shell
VerbMakes verb.Diff rows (command.Diff args) = HasDiff rows args
VerbMakes verb.Explain rows (command.Explain path shape) =
    HasText (codes "IN") rows path.now × HasShape rows shape
VerbMakes verb.Order rows (command.Order path out) =
    HasText (codes "IN") rows path.now × HasText (codes "OUT") rows out.now
VerbMakes verb.Report rows (command.Report args) = HasReport rows args
VerbMakes verb.Simulate rows (command.Simulate args) = HasSimulate rows args
VerbMakes verb.Stage rows (command.Stage args) = HasStage rows args
VerbMakes verb.Trace rows (command.Trace run) = HasRun rows run
VerbMakes verb.Why rows (command.Why args) = HasWhy rows args
VerbMakes verb rows command = ⊥

abbrev pub VerbMakesNone : ToolVerb → List Row → Type 0
VerbMakesNone verb rows = (command : ToolCommand) → ¬ VerbMakes verb rows command
