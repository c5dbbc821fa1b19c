-- Which command the arguments of each command make.
use Rattle.std.specs.Prelude.{◌≡◌, ℕ, List, true, false, codes, option_copied}
use Rattle.std.specs.Prelude.{Option, IfSome, IfNone}
use Rattle.clap.specs.Words.{Row, Text, first_of}
use Rattle.cli_base.specs.Runs.{HasRun}
use Rattle.cli_base.specs.Values.{HasFlag, HasShape, HasShort, HasText, LacksShort}
use Rattle.cli_base.specs.declared.run_args.RunArgs.{RunArgs}
use Rattle.operator_request.specs.declared.request.OperatorRequest.TheVariants as sent
use Rattle.cli_words.specs.declared.request.Command.{Command}
use Rattle.cli_words.specs.declared.request.Command.TheVariants as command
use Rattle.cli_words.specs.declared.request.ServePlan.{ServePlan}
use Rattle.cli_words.specs.declared.task.Task.{Task}
use Rattle.cli_words.specs.declared.task.Task.TheVariants as task
use Rattle.cli_words.specs.declared.verb.Verb.{Verb}
use Rattle.cli_words.specs.declared.verb.Verb.TheVariants as verb

-- the option has this number, or wasn't given one
abbrev pub HasOptional : Text → List Row → Option ℕ → Type 0
HasOptional id rows number = IfSome number (HasShort id rows) × IfNone number (LacksShort id rows)

-- the options of `serve`
pub record HasPlan (rows : List Row) (plan : ServePlan) : Type 0 where
  pub port : HasShort (codes "port") rows plan.port
  pub operator : HasShort (codes "operator") rows plan.operator
  pub workers : HasShort (codes "workers") rows plan.workers
  pub timeout : HasShort (codes "timeout") rows plan.timeout
  pub wait : HasOptional (codes "wait-counters") rows plan.wait
  pub log : HasFlag (codes "log") rows plan.log

abbrev pub LacksPlan : List Row → Type 0
LacksPlan rows = (plan : ServePlan) → ¬ HasPlan rows plan

-- `run`; with `--trace` it makes no command
pub record HasUntracedRun (rows : List Row) (run : RunArgs) : Type 0 where
  pub run_is : HasRun rows run
  pub untraced : ¬ HasText (codes "trace") rows (codes "true")

abbrev pub MakesTask : Verb → List Row → Task → Type 0
MakesTask verb.Assemble rows (task.Assemble text out) =
    HasText (codes "IN") rows text.now × HasText (codes "OUT") rows out.now
MakesTask verb.Cells rows (task.Send sent.Cells port) = HasShort (codes "operator") rows port
MakesTask verb.Compile rows (task.Compile text shape out) =
    HasText (codes "IN") rows text.now × HasText (codes "OUT") rows out.now × HasShape rows shape
MakesTask verb.Halt rows (task.Send (sent.Halt appid) port) =
    HasText (codes "APPID") rows appid.now × HasShort (codes "operator") rows port
MakesTask verb.List rows (task.List path) = HasText (codes "IN") rows path.now
MakesTask verb.Load rows (task.Send (sent.Load path) port) =
    HasText (codes "PATH") rows path.now × HasShort (codes "operator") rows port
MakesTask verb.Replay rows (task.Replay manifest script) =
    HasText (codes "MANIFEST") rows manifest.now × HasText (codes "SCRIPT") rows script.now
MakesTask verb.Resume rows (task.Send (sent.Resume appid) port) =
    HasText (codes "APPID") rows appid.now × HasShort (codes "operator") rows port
MakesTask verb.Run rows (task.Run run) = HasUntracedRun rows run
MakesTask verb.Show rows (task.Send sent.Show port) = HasShort (codes "operator") rows port
MakesTask verb.State rows (task.Send sent.State port) = HasShort (codes "operator") rows port
MakesTask verb.Stop rows (task.Send sent.Stop port) =
    HasShort (codes "operator") rows port × HasFlag (codes "wait") rows false
MakesTask verb.Stop rows (task.StopAndWait port) =
    HasShort (codes "operator") rows port × HasFlag (codes "wait") rows true
MakesTask verb.Verify rows (task.Verify path shape) =
    HasText (codes "IN") rows path.now × HasShape rows shape
MakesTask verb rows task = ⊥

abbrev pub VerbMakes : Verb → List Row → Command → Type 0
VerbMakes verb rows (command.Task task) = MakesTask verb rows task
VerbMakes verb.Serve rows (command.Serve args) =
    HasText (codes "MANIFEST") rows args.manifest.now
    × (option_copied args.counters ≡ first_of (codes "counters") rows) × HasPlan rows args.plan
VerbMakes verb rows (command.Serve args) = ⊥

abbrev pub VerbMakesNone : Verb → List Row → Type 0
VerbMakesNone verb rows = (command : Command) → ¬ VerbMakes verb rows command
