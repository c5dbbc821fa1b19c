-- What the words of a command line are by a grammar, and why they make no command.
use Rattle.std.specs.Prelude.{◌≡◌, ◌≢◌, List, []}
use Rattle.clap.specs.declared.error.Error.{Error}
use Rattle.clap.specs.declared.error.kind.ErrorKind.{ErrorKind}
use Rattle.clap.specs.declared.error.kind.ErrorKind.TheVariants.{DisplayHelp, OutOfMemory}
use Rattle.clap.specs.Kinds.{IsAmong}
use Rattle.clap.specs.Values.{kind_of}
use Rattle.clap.specs.Words.{App, Text, fault_of}
use Rattle.cli_base.specs.declared.words_fault.WordsFault.{WordsFault}
use Rattle.cli_base.specs.declared.words_fault.WordsFault.TheVariants.{Argument, Help}
use Rattle.cli_base.specs.declared.words_fault.WordsFault.TheVariants.{Memory, Usage}

-- clap finds no fault in the words, and no request for help
abbrev pub FitGrammar : App → List Text → Type 0
FitGrammar app words = fault_of app words ≡ []

-- clap finds that they request help
pub record AskForHelp (app : App) (words : List Text) : Type 0 where
  pub found : IsAmong DisplayHelp (fault_of app words)

-- clap finds a fault in them, and no request for help
pub record AreFaulty (app : App) (words : List Text) : Type 0 where
  pub kind : ErrorKind
  pub found : IsAmong kind (fault_of app words)
  pub no_help : kind ≢ DisplayHelp

-- the error is a fault of the words, and not out of memory
pub record IsFaultOf (app : App) (words : List Text) (error : Error) : Type 0 where
  pub fault : AreFaulty app words
  pub kind_is : fault.kind ≡ kind_of error
  pub no_memory : kind_of error ≢ OutOfMemory

-- why words make no command, if `MakeNone` says that they make none; nothing is claimed if an
-- allocation fails
abbrev pub IsWordsFault : App → (MakeNone : Type 0) → List Text → WordsFault → Type 0
IsWordsFault app MakeNone words (Help page) = AskForHelp app words × (kind_of page ≡ DisplayHelp)
IsWordsFault app MakeNone words (Usage error) = IsFaultOf app words error
IsWordsFault app MakeNone words (Argument fault) = MakeNone
IsWordsFault app MakeNone words Memory = Unit {0}

-- ---- by its variant

-- a page of help
abbrev pub IsHelp : WordsFault → Type 0
IsHelp (Help page) = Unit {0}
IsHelp fault = ⊥

-- a fault of the words
abbrev pub IsWrong : WordsFault → Type 0
IsWrong (Usage error) = Unit {0}
IsWrong (Argument fault) = Unit {0}
IsWrong fault = ⊥
