-- What the words of a command line request, by the commands of `rollout-tools`.
use Rattle.std.specs.Prelude.{List}
use Rattle.clap.specs.Words.{Text}
use Rattle.cli_base.specs.Faults as line
use Rattle.cli_base.specs.Requests as request
use Rattle.cli_base.specs.declared.words_fault.WordsFault.{WordsFault}
use Rattle.cli_tool_words.specs.Tools.{names, tools}
use Rattle.cli_tool_words.specs.Words.{VerbMakes}
use Rattle.cli_tool_words.specs.declared.args.ToolCommand.{ToolCommand}

-- the words fit the grammar, and make this command
abbrev pub AskFor : List Text → ToolCommand → Type 0
AskFor words command = request.AskFor VerbMakes tools names words command

-- they fit the grammar, and make none
abbrev pub AskForNothing : List Text → Type 0
AskForNothing words = request.AskForNothing VerbMakes tools names words

-- they request help
abbrev pub AskForHelp : List Text → Type 0
AskForHelp words = line.AskForHelp tools words

-- why they make none, or request help
abbrev pub IsWordsFault : List Text → WordsFault → Type 0
IsWordsFault words fault = line.IsWordsFault tools (AskForNothing words) words fault
