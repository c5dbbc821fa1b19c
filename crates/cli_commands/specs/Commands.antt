-- What a command has done if its status is 0, and what its words are if it is 2.
use Rattle.std.specs.Prelude.{◌⊎◌, ℕ, List, [], Option}
use Rattle.std.specs.Io.KnownBytes.{Appends}
use Rattle.bounded_files.specs.Files.{KnownFiles}
use Rattle.cli_base.specs.Faults.{AreFaulty}
use Rattle.cli_words.specs.Grammar.{commands}
use Rattle.cli_words.specs.Requests.{AskFor, AskForHelp, AskForNothing}
use Rattle.cli_words.specs.declared.request.Command.{Command}
use Rattle.cli_words.specs.declared.request.Command.TheVariants as command
use Rattle.cli_words.specs.declared.request.ServeArgs.{ServeArgs}
use Rattle.cli_commands.specs.Ready.{IsReady}
use Rattle.server_counters.specs.declared.counters.Counters.{Counters}
use Rattle.serving.specs.declared.server.Server.{Server}
use Rattle.cli_tasks.specs.Answered.{IsAnswered}
use Rattle.workers.specs.Texts.{serving_line}

-- a ready server, which need not be the one that served, opens with these counters; and the line of
-- the first generation was appended to standard output
pub record HasServed (known : KnownFiles) (args : ServeArgs)
    (before after : Option (List ℕ)) : Type 0 where
  pub counters : Option Counters
  pub server : Server
  pub ready : IsReady known args counters server
  pub printed : Appends before after (serving_line 1)

-- the command has served, or its task is done; and standard error got nothing
abbrev pub HasSucceeded : KnownFiles → Command → (before after : Option (List ℕ))
    → (GetsLines : List ℕ → Type 0) → Type 0
HasSucceeded known (command.Serve args) before after GetsLines =
    HasServed known args before after × GetsLines []
HasSucceeded known (command.Task task) before after GetsLines =
    IsAnswered known task before after GetsLines

-- the words request help, and standard error got nothing; or they make a command, and it succeeded
abbrev pub IsDone : KnownFiles → List (List ℕ) → (before after : Option (List ℕ))
    → (GetsLines : List ℕ → Type 0) → Type 0
IsDone known words before after GetsLines =
    (AskForHelp words × GetsLines [])
    ⊎ ((command : Command) × AskFor words command
    × HasSucceeded known command before after GetsLines)

-- the words are faulty, or make no command
abbrev pub AreWrong : List (List ℕ) → Type 0
AreWrong words = AreFaulty commands words ⊎ AskForNothing words
