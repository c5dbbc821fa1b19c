-- The output of each task, and why it is refused, by the bytes of the files, as far as they are
-- known. The bytes of a device's files aren't known, so an output is one for some bytes. No
-- contract can say what a server replies, and nothing is claimed if an allocation fails.
use Rattle.std.specs.String.{string_bytes}
use Rattle.bounded_files.specs.Files.{KnownFiles}
use Rattle.cli_words.specs.declared.task.Task.{Task}
use Rattle.cli_words.specs.declared.task.Task.TheVariants as task
use Rattle.operator.specs.Done.{IsRequestRefusal, IsDoneAs}
use Rattle.operator_request.specs.declared.request.OperatorRequest.TheVariants as sent
use Rattle.cli_programs.specs.Assembly.{IsAssembledFrom, IsAssemblyRefusal}
use Rattle.cli_programs.specs.Assembly.{IsListedFrom, IsListingRefusal}
use Rattle.cli_programs.specs.Programs.{HasChosen, HasSlots, IsProgramRefusal, IsRunRefusal}
use Rattle.cli_programs.specs.Rules.{HasCompiled, IsCompileRefusal}
use Rattle.cli_tasks.specs.Replays.{HasReplayed, IsReplayRefusal}
use Rattle.cli_tasks.specs.declared.output.TaskOutput.{TaskOutput}
use Rattle.cli_tasks.specs.declared.output.TaskOutput.TheVariants as output
use Rattle.cli_tasks.specs.declared.task_fault.TaskFault.{TaskFault}
use Rattle.cli_tasks.specs.declared.task_fault.TaskFault.TheVariants.{Ask, Program}

module _ (known : KnownFiles) where
  abbrev pub IsOutput : Task → TaskOutput → Type 0
  IsOutput (task.Assemble text out) (output.Assembled program) =
      IsAssembledFrom known text.now program.items
  IsOutput (task.Compile text shape out) (output.Compiled slots) =
      HasCompiled known text.now shape slots
  IsOutput (task.List path) (output.Listed text) = IsListedFrom known path.now (string_bytes text)
  IsOutput (task.Replay manifest script) (output.Replayed text) =
      HasReplayed known manifest.now script.now (string_bytes text)
  IsOutput (task.Run run) (output.Chosen choice instructions) =
      HasChosen known run choice instructions
  IsOutput (task.Send request port) (output.Replied text) = IsDoneAs request (string_bytes text)
  IsOutput (task.StopAndWait port) (output.Replied text) = IsDoneAs sent.Stop (string_bytes text)
  IsOutput (task.Verify path shape) (output.Accepted slots) = HasSlots known path.now shape slots
  IsOutput task output = ⊥

  abbrev pub IsRefused : Task → TaskFault → Type 0
  IsRefused (task.Assemble text out) (Program fault) = IsAssemblyRefusal known text.now fault
  IsRefused (task.Compile text shape out) (Program fault) =
      IsCompileRefusal known text.now shape fault
  IsRefused (task.List path) (Program fault) = IsListingRefusal known path.now fault
  IsRefused (task.Replay manifest script) fault =
      IsReplayRefusal known manifest.now script.now fault
  IsRefused (task.Run run) (Program fault) = IsRunRefusal known run.path.now run.shape fault
  IsRefused (task.Send request port) (Ask fault) = IsRequestRefusal request fault
  IsRefused (task.StopAndWait port) (Ask fault) = IsRequestRefusal sent.Stop fault
  IsRefused (task.Verify path shape) (Program fault) =
      IsProgramRefusal known path.now shape fault
  IsRefused task fault = ⊥
