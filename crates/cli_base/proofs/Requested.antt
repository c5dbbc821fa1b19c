-- What the words request, by what clap finds with an equal grammar.
use Rattle.std.proofs.Common.{◌≡◌, subst, List, Option}
use Rattle.clap.specs.Words.{App, Row, Text, subcommand_of}
use Rattle.cli_base.specs.Faults.{FitGrammar}
use Rattle.cli_base.specs.Grammar.{verb_of}
use Rattle.cli_base.specs.Requests.{AskFor, AskForNothing, FoundMakes, FoundMakesNone}

module _ {V C : Type 0} (VerbMakes : V → List Row → C → Type 0) (app own : App)
    (names : List (Text × V)) (words : List Text) (found : Option (Text × List Row)) where
  pub asks_for : (command : C) → app ≡ own → found ≡ subcommand_of app words
      → FitGrammar app words → FoundMakes VerbMakes (verb_of names found) command
      → AskFor VerbMakes own names words command
  asks_for command same is fits made =
      let by_app : AskFor VerbMakes app names words command = record {
        fits = fits;
        made = subst (λ (f : Option (Text × List Row)).
            FoundMakes VerbMakes (verb_of names f) command) is made;
      } in
      subst (λ (a : App). AskFor VerbMakes a names words command) same by_app

  pub asks_for_nothing : app ≡ own → found ≡ subcommand_of app words → FitGrammar app words
      → FoundMakesNone VerbMakes (verb_of names found) → AskForNothing VerbMakes own names words
  asks_for_nothing same is fits none =
      let by_app : AskForNothing VerbMakes app names words = record {
        fits = fits;
        none = subst (λ (f : Option (Text × List Row)).
            FoundMakesNone VerbMakes (verb_of names f)) is none;
      } in
      subst (λ (a : App). AskForNothing VerbMakes a names words) same by_app
