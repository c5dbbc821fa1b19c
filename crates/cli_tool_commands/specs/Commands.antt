-- What a command has done if its status is 0, and what its words are if it is 2.
use Rattle.std.specs.Prelude.{◌≡◌, ◌⊎◌, ℕ, List, [], Option, true}
use Rattle.std.specs.Io.KnownBytes.{Appends}
use Rattle.bounded_files.specs.Files.{KnownFiles}
use Rattle.cli_base.specs.Faults.{AreFaulty}
use Rattle.cli_base.specs.Printed.{refused_line}
use Rattle.cli_tool_commands.specs.Outputs.{IsOutput}
use Rattle.cli_tool_commands.specs.Texts.{fault_text, output_text, passes, refusal_reason}
use Rattle.cli_tool_commands.specs.Texts.{warnings_of}
use Rattle.cli_tool_commands.specs.declared.tool_fault.Fault.{Fault}
use Rattle.cli_tool_commands.specs.declared.output.ToolOutput.{ToolOutput}
use Rattle.cli_tool_words.specs.Requests.{AskFor, AskForHelp, AskForNothing}
use Rattle.cli_tool_words.specs.Tools.{tools}
use Rattle.cli_tool_words.specs.declared.args.ToolCommand.{ToolCommand}

-- the command was done, and the text of its output was appended; standard error got the warnings of
-- a check, none of which counts, the notes of a stage, or else nothing
pub record IsAnswered (known : KnownFiles) (command : ToolCommand)
    (before after : Option (List ℕ)) (IsWarned : List ℕ → Type 0) : Type 0 where
  pub output : ToolOutput
  pub is_output : IsOutput known command output
  pub printed : Appends before after (output_text output)
  pub warned : IsWarned (warnings_of output)
  pub passed : passes output ≡ true

-- the words request help, and standard error got nothing; or the command that they make was done
abbrev pub IsDone : KnownFiles → List (List ℕ) → (before after : Option (List ℕ))
    → (IsWarned : List ℕ → Type 0) → Type 0
IsDone known words before after IsWarned =
    (AskForHelp words × IsWarned [])
    ⊎ ((command : ToolCommand) × AskFor words command
    × IsAnswered known command before after IsWarned)

-- the line of a refusal is printed, then the place and the reason of a manifest's refusal
abbrev pub IsFaultPrinted : Fault → (before after : Option (List ℕ)) → Type 0
IsFaultPrinted fault before after = (between : Option (List ℕ))
    × Appends before between (refused_line (fault_text fault))
    × Appends between after (refusal_reason fault)

-- the words are faulty, or make no command
abbrev pub AreWrong : List (List ℕ) → Type 0
AreWrong words = AreFaulty tools words ⊎ AskForNothing words
