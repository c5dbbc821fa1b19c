-- A command with its arguments added one by one, and a grammar with its commands.
use Rattle.std.proofs.Common.{◌≡◌, ◌∙◌, sym, ap, refl, ℕ, ◌<◌, ◌+◌, List, [], ◌∷◌, ◌++◌, Bool}
use Rattle.std.proofs.Common.{false, ◌||◌, ◌≤◌, map, take, get_or, length}
use Rattle.std.proofs.lemmas.List.{map_more, take_all}
use Rattle.clap.specs.declared.builder.arg.Arg.{Arg}
use Rattle.clap.specs.declared.builder.command.Command.{Command}
use Rattle.clap.specs.declared.builder.command.Command.TheViews.{out-Command}
use Rattle.clap.specs.Built.{AddsArg}
use Rattle.clap.specs.Simple.{Shape}
use Rattle.clap.specs.Words.{AddsSubcommand, App, Rule, app_of, rule_of, shape_of, with_subcommand}
use Rattle.clap.specs.Words.{Text}
use Rattle.cli_base.specs.declared.argument.CommandArgument.{CommandArgument}
use Rattle.cli_base.specs.declared.row.CommandRow.{CommandRow}
use Rattle.cli_base.specs.Grammar.{app_of_rows, app_with, command, rule_of_argument}
use Rattle.cli_base.specs.Grammar.{shape_of_row}
use Rattle.cli_base.specs.Grammar.{with_subcommands}

pub one_more_argument : (name : Text) (arguments : List CommandArgument) (i : ℕ)
    (d : CommandArgument) (old new : Command) (a : Arg) → i < length arguments
    → shape_of old ≡ command name (map rule_of_argument (take i arguments))
    → rule_of a ≡ rule_of_argument (get_or arguments i d) → a.global ≡ false
    → AddsArg old a new
    → shape_of new ≡ command name (map rule_of_argument (take (i + 1) arguments))
one_more_argument name arguments i d old new a within so_far is local adds =
    let rules = map rule_of_argument (take i arguments) in
    ap (λ (x : App). x.top) (adds.shape local)
    ∙ ap (λ (s : Shape). record s { rules = s.rules ++ rule_of a ∷ [] }) so_far
    ∙ ap (λ (r : Rule). command name (rules ++ r ∷ [])) is
    ∙ ap (command name) (sym (map_more rule_of_argument arguments i d within))

pub all_arguments : (name : Text) (arguments : List CommandArgument) (i : ℕ) (c : Command)
    → length arguments ≤ i → shape_of c ≡ command name (map rule_of_argument (take i arguments))
    → shape_of c ≡ command name (map rule_of_argument arguments)
all_arguments name arguments i c past so_far =
    so_far ∙ ap (λ (all : List CommandArgument). command name (map rule_of_argument all))
    (take_all i arguments past)

pub still_local : (old new : Command) (a : Arg) → AddsArg old a new → a.global ≡ false
    → (out-Command old).has_globals ≡ false → (out-Command new).has_globals ≡ false
still_local old new a adds arg_local local =
    adds.globals ∙ ap (λ (b : Bool). b || a.global) local ∙ arg_local

with_last : (a : App) (shapes : List Shape) (s : Shape)
    → with_subcommands a (shapes ++ s ∷ []) ≡ with_subcommand (with_subcommands a shapes) s
with_last a [] s = refl
with_last a (t ∷ rest) s = with_last (with_subcommand a t) rest s

pub one_more_command : {V : Type 0} (a : App) (rows : List (CommandRow V)) (i : ℕ)
    (d : CommandRow V) (old new added : Command) → i < length rows
    → app_of old ≡ with_subcommands a (map shape_of_row (take i rows))
    → shape_of added ≡ shape_of_row (get_or rows i d) → (out-Command added).has_globals ≡ false
    → AddsSubcommand old added new
    → app_of new ≡ with_subcommands a (map shape_of_row (take (i + 1) rows))
one_more_command a rows i d old new added within so_far is local adds =
    let shapes = map shape_of_row (take i rows) in
    adds.shape local ∙ ap (λ (x : App). with_subcommand x (shape_of added)) so_far
    ∙ ap (with_subcommand (with_subcommands a shapes)) is
    ∙ sym (with_last a shapes (shape_of_row (get_or rows i d)))
    ∙ ap (with_subcommands a) (sym (map_more shape_of_row rows i d within))

pub all_commands : {V : Type 0} (rows : List (CommandRow V)) (i : ℕ) (c : Command)
    → length rows ≤ i → app_of c ≡ app_with (map shape_of_row (take i rows))
    → app_of c ≡ app_of_rows rows
all_commands {V} rows i c past so_far =
    so_far ∙ ap (λ (all : List (CommandRow V)). app_of_rows all) (take_all i rows past)
