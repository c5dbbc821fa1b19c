-- What the words of a command line request, by the commands of the program.
use Rattle.std.specs.Prelude.{List}
use Rattle.clap.specs.Words.{Text}
use Rattle.cli_base.specs.Faults as line
use Rattle.cli_base.specs.Requests as request
use Rattle.cli_base.specs.declared.words_fault.WordsFault.{WordsFault}
use Rattle.cli_words.specs.Grammar.{commands, names}
use Rattle.cli_words.specs.Words.{VerbMakes}
use Rattle.cli_words.specs.declared.request.Command.{Command}

-- the words fit the grammar, and make this command
abbrev pub AskFor : List Text → Command → Type 0
AskFor words command = request.AskFor VerbMakes commands names words command

-- the words fit the grammar, and make no command
abbrev pub AskForNothing : List Text → Type 0
AskForNothing words = request.AskForNothing VerbMakes commands names words

-- the words request help
abbrev pub AskForHelp : List Text → Type 0
AskForHelp words = line.AskForHelp commands words

-- why the words make no command
abbrev pub IsWordsFault : List Text → WordsFault → Type 0
IsWordsFault words fault = line.IsWordsFault commands (AskForNothing words) words fault
