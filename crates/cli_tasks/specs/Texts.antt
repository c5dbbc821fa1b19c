-- The texts that the program prints for a task's output and for its refusal.
use Rattle.std.specs.Prelude.{ℕ, ◌/◌, List, ◌++◌, length, codes}
use Rattle.std.specs.Fmt.{decimal}
use Rattle.std.specs.String.{string_bytes}
use Rattle.bounded_files.specs.Texts.{resource_text}
use Rattle.operator.specs.Texts.{request_fault_text}
use Rattle.cli_programs.specs.Texts as program
use Rattle.replay.specs.Texts.{replay_fault_text}
use Rattle.ruleset.specs.Texts.{line}
use Rattle.cli_tasks.specs.declared.output.TaskOutput.{TaskOutput}
use Rattle.cli_tasks.specs.declared.output.TaskOutput.TheVariants as output
use Rattle.cli_tasks.specs.declared.task_fault.TaskFault.{TaskFault}
use Rattle.cli_tasks.specs.declared.task_fault.TaskFault.TheVariants as fault

-- the text that is printed for an output
abbrev pub output_text : TaskOutput → List ℕ
output_text (output.Assembled program) = line (decimal (length program.items / 8) ++ codes " slots")
output_text (output.Compiled slots) = line (decimal slots ++ codes " slots")
output_text (output.Listed text) = string_bytes text
output_text (output.Accepted slots) = line (codes "accepted " ++ decimal slots ++ codes " slots")
output_text (output.Chosen choice instructions) =
    line (codes "choice " ++ decimal choice
    ++ codes " after " ++ decimal instructions ++ codes " instructions")
output_text (output.Replayed text) = string_bytes text
output_text (output.Replied text) = string_bytes text

abbrev pub fault_text : TaskFault → List ℕ
fault_text (fault.Resource fault) = resource_text fault
fault_text (fault.Program fault) = program.fault_text fault
fault_text (fault.Replay fault) = replay_fault_text fault
fault_text (fault.Ask fault) = request_fault_text fault
