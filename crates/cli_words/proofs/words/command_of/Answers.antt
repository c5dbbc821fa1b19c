use Rattle.std.proofs.Common.{◌≡◌, ◌∙◌, ap, subst, sym, List, Option, None, Some}
use Rattle.std.specs.Prelude.{IfOk, option_map}
use Rattle.clap.specs.Words.{Row, Text, found_of, rows_of, subcommand_rows_of}
use Rattle.cli_base.specs.Grammar.{verb_of}
use Rattle.cli_base.specs.Requests.{FoundMakes, FoundMakesNone}
use Rattle.cli_words.specs.Grammar.{names}
use Rattle.cli_words.specs.Words.{VerbMakes}
use Rattle.cli_words.specs.declared.verb.Verb.{Verb}
use Rattle.cli_words.proofs.words.command_of.Goals as goal

pub returns-in-Some-clause-made : goal.returns-in-Some-clause-made
returns-in-Some-clause-made c =
    let rows = subcommand_rows_of c.args.matches.now in
    let is : Some (c.in-Some.verb, rows_of (found_of c.in-Some.found.now)) ≡ verb_of names rows =
    ap (option_map (λ f. (f.0, rows_of (found_of f.1.now)))) (sym c.in-Some.is)
    ∙ c.command_found.ensures
    ∙ ap (λ (n : List (Text × Verb)). verb_of n rows) c.command_rows.ensures.names in
    subst (λ (f : Option (Verb × List Row)). IfOk c.command_with.result (FoundMakes VerbMakes f)) is
    c.command_with.ensures.made

pub returns-in-Some-clause-none : goal.returns-in-Some-clause-none
returns-in-Some-clause-none c = λ fault wrong.
    let rows = subcommand_rows_of c.args.matches.now in
    let is : Some (c.in-Some.verb, rows_of (found_of c.in-Some.found.now)) ≡ verb_of names rows =
    ap (option_map (λ f. (f.0, rows_of (found_of f.1.now)))) (sym c.in-Some.is)
    ∙ c.command_found.ensures
    ∙ ap (λ (n : List (Text × Verb)). verb_of n rows) c.command_rows.ensures.names in
    subst (λ (f : Option (Verb × List Row)). FoundMakesNone VerbMakes f) is
    (c.command_with.ensures.none fault wrong)

pub returns-in-None-clause-none : goal.returns-in-None-clause-none
returns-in-None-clause-none c = λ fault wrong.
    let rows = subcommand_rows_of c.args.matches.now in
    let is : None ≡ verb_of names rows =
    ap (option_map (λ f. (f.0, rows_of (found_of f.1.now)))) (sym c.in-None.is)
    ∙ c.command_found.ensures
    ∙ ap (λ (n : List (Text × Verb)). verb_of n rows) c.command_rows.ensures.names in
    subst (λ (f : Option (Verb × List Row)). FoundMakesNone VerbMakes f) is (λ command made. made)
