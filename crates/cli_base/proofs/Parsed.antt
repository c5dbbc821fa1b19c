-- What clap's clauses about a parse say about the words.
use Rattle.std.proofs.Common.{◌≡◌, ◌∙◌, sym, subst, ap, refl, inl, inr, List, true}
use Rattle.std.proofs.lemmas.Bool.{and_parts}
use Rattle.std.specs.Prelude.{◌≢◌, ◌⊎◌}
use Rattle.clap.specs.declared.error.Error.{Error}
use Rattle.clap.specs.declared.error.kind.ErrorKind.{ErrorKind}
use Rattle.clap.specs.declared.error.kind.ErrorKind.TheVariants.{DisplayHelp, OutOfMemory}
use Rattle.clap.specs.declared.parser.matches.ArgMatches.{ArgMatches}
use Rattle.clap.specs.Kinds.{HasKind, IsAmong, Kinds}
use Rattle.clap.specs.Words.{Text, App, HasMatchesOf, fault_of, is_simple, is_simple_and_free}
use Rattle.clap.specs.Words.{kind_of, subcommand_of, subcommand_rows_of}
use Rattle.cli_base.specs.Faults.{AreFaulty, AskForHelp, IsFaultOf, IsHelp, IsWordsFault}
use Rattle.cli_base.specs.Faults.{IsWrong}
use Rattle.cli_base.specs.declared.words_fault.WordsFault.{WordsFault}
use Rattle.cli_base.specs.declared.words_fault.WordsFault.TheVariants.{Argument, Help}
use Rattle.cli_base.specs.declared.words_fault.WordsFault.TheVariants.{Memory, Usage}

pub rows_are : (a app : App) (words : List Text) (m : ArgMatches) → a ≡ app
    → is_simple_and_free app ≡ true → HasMatchesOf a words m
    → subcommand_rows_of m ≡ subcommand_of app words
rows_are a app words m is simple has =
    (has (ap is_simple is ∙ (and_parts (is_simple app) _ simple).0)).1
    ∙ ap (λ (x : App). subcommand_of x words) is

-- what clap says about the faults by its own grammar, by an equal one
pub by_faults : (P : Kinds → Type 0) (a app : App) (words : List Text) → a ≡ app
    → is_simple_and_free app ≡ true → (is_simple_and_free a ≡ true → P (fault_of a words))
    → P (fault_of app words)
by_faults P a app words is simple says =
    subst (λ (x : App). P (fault_of x words)) is (says (ap is_simple_and_free is ∙ simple))

-- an error of the same kind
pub same_kind : (app : App) (words : List Text) (e f : Error) → kind_of f ≡ kind_of e
    → HasKind (fault_of app words) e → HasKind (fault_of app words) f
same_kind app words e f same found =
    subst (λ (k : ErrorKind). (k ≡ OutOfMemory) ⊎ IsAmong k (fault_of app words)) (sym same) found

pub is_fault : (app : App) (words : List Text) (e : Error) → HasKind (fault_of app words) e
    → kind_of e ≢ DisplayHelp → kind_of e ≢ OutOfMemory → IsFaultOf app words e
is_fault app words e (inl memory) no_help no_memory = absurd (no_memory memory)
is_fault app words e (inr among) no_help no_memory = record {
  fault = record { kind = kind_of e; found = among; no_help = no_help };
  kind_is = refl;
  no_memory = no_memory;
}

-- ---- for the programs

-- help was requested
pub help_is : (app : App) (MakeNone : Type 0) (words : List Text) (fault : WordsFault)
    → IsWordsFault app MakeNone words fault → IsHelp fault → AskForHelp app words
help_is app MakeNone words (Help page) is help = is.0
help_is app MakeNone words fault is help = absurd help

-- the words are wrong
pub wrong_is : (app : App) (MakeNone : Type 0) (words : List Text) (fault : WordsFault)
    → IsWordsFault app MakeNone words fault → IsWrong fault
    → AreFaulty app words ⊎ MakeNone
wrong_is app MakeNone words (Usage error) is wrong = inl is.fault
wrong_is app MakeNone words (Argument fault) is wrong = inr is
wrong_is app MakeNone words fault is wrong = absurd wrong

only_of_grammar : (app : App) (MakeNone : Type 0) (words : List Text) (fault : WordsFault)
    → IsWordsFault app ⊥ words fault → IsWordsFault app MakeNone words fault
only_of_grammar app MakeNone words (Help page) is = is
only_of_grammar app MakeNone words (Usage error) is = is
only_of_grammar app MakeNone words (Argument fault) is = absurd is
only_of_grammar app MakeNone words Memory is = tt

-- words that don't fit the grammar, nor an equal one
pub of_grammar : (app own : App) (MakeNone : Type 0) (words : List Text) (fault : WordsFault)
    → app ≡ own → IsWordsFault app ⊥ words fault → IsWordsFault own MakeNone words fault
of_grammar app own MakeNone words fault same is =
    subst (λ (a : App). IsWordsFault a MakeNone words fault) same
    (only_of_grammar app MakeNone words fault is)
