-- What a task has done if its status is 0.
use Rattle.std.specs.Prelude.{ℕ, List, [], Option}
use Rattle.std.specs.Io.KnownBytes.{Appends}
use Rattle.bounded_files.specs.Files.{KnownFiles}
use Rattle.cli_words.specs.declared.task.Task.{Task}
use Rattle.cli_tasks.specs.Outputs.{IsOutput}
use Rattle.cli_tasks.specs.Texts.{output_text}
use Rattle.cli_tasks.specs.declared.output.TaskOutput.{TaskOutput}

-- the task has this output, whose text was appended to standard output; and standard error got
-- nothing
pub record IsAnswered (known : KnownFiles) (task : Task) (before after : Option (List ℕ))
    (GetsLines : List ℕ → Type 0) : Type 0 where
  pub output : TaskOutput
  pub is_output : IsOutput known task output
  pub printed : Appends before after (output_text output)
  pub silent : GetsLines []
