-- Arguments and commands in the form of clap, and the grammar of a table of commands.
use Rattle.std.specs.Prelude.{ℕ, ℤ, pos, Bool, List, [], ◌∷◌, map, Some, true, false, codes, Option}
use Rattle.std.specs.Prelude.{option_and_then, option_map}
use Rattle.std.specs.List.{find}
use Rattle.std.specs.Str.{bytes_eq}
use Rattle.clap.specs.declared.builder.action.ArgAction.{ArgAction}
use Rattle.clap.specs.declared.builder.action.ArgAction.TheVariants.{Append, Set, SetTrue}
use Rattle.clap.specs.declared.builder.value_parser.ValueParser.TheVariants.{Signed}
use Rattle.clap.specs.Simple.{Shape, new_shape}
use Rattle.clap.specs.Words.{App, Row, Rule, Text, new_app, new_rule, with_subcommand}
use Rattle.cli_base.specs.declared.argument.CommandArgument.{CommandArgument}
use Rattle.cli_base.specs.declared.argument.CommandArgument.TheVariants as argument
use Rattle.cli_base.specs.declared.argument.NumberLimits.{NumberLimits}
use Rattle.cli_base.specs.declared.row.CommandRow.{CommandRow}

-- ---- arguments and options

-- a required positional argument
abbrev pub positional : Text → ArgAction → Rule
positional id action = record (new_rule id) { required = true; action = Some action }

abbrev pub file : Text → Rule
file id = positional id Set

-- one or more positional arguments
abbrev pub files : Text → Rule
files id = positional id Append

-- `--NAME`, with this action
abbrev pub named : Text → ArgAction → Rule
named name action = record (new_rule name) { long = Some name; action = Some action }

-- `--NAME`, a flag
abbrev pub flag : Text → Rule
flag name = named name SetTrue

-- `--NAME VALUE`
abbrev pub taking_value : Text → ArgAction → Rule
taking_value name action = record (named name action) { value_names = 1 }

abbrev pub option : Text → Rule
option name = taking_value name Set

-- a repeatable option
abbrev pub repeated : Text → Rule
repeated name = taking_value name Append

-- an option with a number, from the least to the most
abbrev pub ranged : Text → ℤ → ℤ → (required : Bool) → (defaults : List Text) → Rule
ranged name least most required defaults = record (option name) {
  required = required;
  defaults = defaults;
  parser = Some (Signed least most);
}

abbrev pub limited : Text → NumberLimits → (required : Bool) → (defaults : List Text) → Rule
limited name limits required defaults = ranged name limits.0 limits.1 required defaults

-- `--operator P` or `--operator-port P`, the operator's port
abbrev pub operator_port : (required : Bool) → Rule
operator_port required = record (ranged (codes "operator") (pos 1) (pos 65535) required []) {
  aliases = codes "operator-port" ∷ [];
}

-- an argument in clap's form
abbrev pub rule_of_argument : CommandArgument → Rule
rule_of_argument (argument.Word id help) = file id.now
rule_of_argument (argument.Words id help) = files id.now
rule_of_argument (argument.Flag name help) = flag name.now
rule_of_argument (argument.Text name value help) = option name.now
rule_of_argument (argument.Texts name value help) = repeated name.now
rule_of_argument (argument.Number name value limits help) = limited name.now limits true []
rule_of_argument (argument.OptionalNumber name value limits help) = limited name.now limits false []
rule_of_argument (argument.NumberByDefault name value limits default help) =
    limited name.now limits false (default.now ∷ [])
rule_of_argument (argument.Operator help) = operator_port true
rule_of_argument (argument.OptionalOperator help) = operator_port false

abbrev pub command : Text → List Rule → Shape
command name arguments = record (new_shape name) { rules = arguments }

-- a command in clap's form
abbrev pub shape_of_row : {V : Type 0} → CommandRow V → Shape
shape_of_row row = command row.name.now (map rule_of_argument row.arguments.now)

-- ---- arguments that several commands share

-- `--NAME N`, from the least to the most
abbrev pub number : Text → ℕ → ℕ → Rule
number name least most = ranged name (pos least) (pos most) false []

-- `--NAME N`, required
abbrev pub required_number : Text → ℕ → ℕ → Rule
required_number name least most = ranged name (pos least) (pos most) true []

-- the file of a manifest, and that of a program or a text
abbrev pub manifest : Rule
manifest = file (codes "MANIFEST")

abbrev pub input : Rule
input = file (codes "IN")

-- `--releases N`, required
abbrev pub releases : Rule
releases = required_number (codes "releases") 0 64

-- `--arrays SPEC`
abbrev pub arrays : Rule
arrays = option (codes "arrays")

-- the operator's port, required
abbrev pub operator : Rule
operator = operator_port true

-- `--verbose`
abbrev pub verbose : Rule
verbose = flag (codes "verbose")

-- the options that describe an app
abbrev pub app_options : List Rule
app_options = option (codes "version") ∷ repeated (codes "attr") ∷ flag (codes "ping")
    ∷ flag (codes "event") ∷ option (codes "today") ∷ option (codes "at")
    ∷ option (codes "installed") ∷ []

-- `--bucket N`
abbrev pub bucket : Rule
bucket = number (codes "bucket") 0 9999

-- ---- tables of commands

abbrev pub with_required : App → App
with_required app = record app { top = record app.top { subcommand_required = true } }

abbrev pub with_subcommands : App → List Shape → App
with_subcommands app [] = app
with_subcommands app (s ∷ rest) = with_subcommands (with_subcommand app s) rest

-- a command line that requires one of these commands
abbrev pub app_with : List Shape → App
app_with shapes = with_subcommands (with_required (new_app (codes "rollout"))) shapes

-- a command of a grammar: its name, and its arguments
pub record VerbRules (V : Type 0) : Type 0 where
  pub name : Text
  pub verb : V
  pub rules : List Rule

-- the command line of a grammar
abbrev pub app_of_rules : {V : Type 0} → List (VerbRules V) → App
app_of_rules verbs = app_with (map (λ r. command r.name r.rules) verbs)

-- the command line of a table in the code
abbrev pub app_of_rows : {V : Type 0} → List (CommandRow V) → App
app_of_rows rows = app_with (map shape_of_row rows)

-- ---- by name

abbrev pub names_of_rules : {V : Type 0} → List (VerbRules V) → List (Text × V)
names_of_rules verbs = map (λ r. (r.name, r.verb)) verbs

abbrev pub names_of : {V : Type 0} → List (CommandRow V) → List (Text × V)
names_of rows = map (λ r. (r.name.now, r.verb)) rows

-- the command of the first row with a name
abbrev pub verb_in : {V : Type 0} → Text → List (Text × V) → Option V
verb_in name rows = option_map (λ r. r.1) (find (λ r. bytes_eq name r.0) rows)

-- the command among these that the words have, with what its arguments were given
abbrev pub verb_of : {V : Type 0} → List (Text × V) → Option (Text × List Row)
    → Option (V × List Row)
verb_of names named =
    option_and_then (λ n. option_map (λ v. (v, n.1)) (verb_in n.0 names)) named
