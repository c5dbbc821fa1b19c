-- What the words of a command line request, by a program's grammar, the names of its commands, and
-- what the arguments of each command make.
use Rattle.std.specs.Prelude.{List, Option, Some, None}
use Rattle.clap.specs.Words.{App, Row, Text, subcommand_of}
use Rattle.cli_base.specs.Faults.{FitGrammar}
use Rattle.cli_base.specs.Grammar.{verb_of}

module _ {V C : Type 0} (VerbMakes : V → List Row → C → Type 0) where
  -- a command of the table, with what its arguments were given, makes this command
  abbrev pub FoundMakes : Option (V × List Row) → C → Type 0
  FoundMakes None command = ⊥
  FoundMakes (Some found) command = VerbMakes found.0 found.1 command

  abbrev pub FoundMakesNone : Option (V × List Row) → Type 0
  FoundMakesNone found = (command : C) → ¬ FoundMakes found command

  -- the words fit the grammar, and make this command
  pub record AskFor (app : App) (names : List (Text × V)) (words : List Text) (command : C)
      : Type 0 where
    pub fits : FitGrammar app words
    pub made : FoundMakes (verb_of names (subcommand_of app words)) command

  -- they fit the grammar, and make none
  pub record AskForNothing (app : App) (names : List (Text × V)) (words : List Text) : Type 0 where
    pub fits : FitGrammar app words
    pub none : FoundMakesNone (verb_of names (subcommand_of app words))
