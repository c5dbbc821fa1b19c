-- The commands of `rollout-tools`, with their arguments.
use Rattle.std.specs.Prelude.{List, [], ◌∷◌, codes, false, map}
use Rattle.clap.specs.Words.{App, Rule, Text}
use Rattle.cli_base.specs.Grammar.{VerbRules, app_of_rules, names_of_rules, rule_of_argument}
use Rattle.cli_base.specs.Grammar.{app_options, arrays, bucket, file, files, flag, input}
use Rattle.cli_base.specs.Grammar.{manifest, operator_port, option, releases, repeated}
use Rattle.cli_base.specs.declared.row.CommandRow.{CommandRow}
use Rattle.cli_tool_words.specs.declared.verb.ToolVerb.{ToolVerb}
use Rattle.cli_tool_words.specs.declared.verb.ToolVerb.TheVariants as verb

abbrev pub verb_rules : Text → ToolVerb → List Rule → VerbRules ToolVerb
verb_rules name verb arguments = record { name = name; verb = verb; rules = arguments }

-- ---- the commands

abbrev pub ask : VerbRules ToolVerb
ask = verb_rules (codes "ask") verb.Ask
    (manifest ∷ file (codes "REQUEST") ∷ option (codes "at") ∷ repeated (codes "cells")
    ∷ operator_port false ∷ flag (codes "why") ∷ [])

abbrev pub check : VerbRules ToolVerb
check = verb_rules (codes "check") verb.Check
    (files (codes "MANIFEST") ∷ flag (codes "strict") ∷ repeated (codes "allow")
    ∷ flag (codes "json") ∷ [])

abbrev pub completion : VerbRules ToolVerb
completion = verb_rules (codes "completion") verb.Completion (file (codes "SHELL") ∷ [])

abbrev pub diff : VerbRules ToolVerb
diff = verb_rules (codes "diff") verb.Diff
    (file (codes "OLD") ∷ file (codes "NEW") ∷ option (codes "app") ∷ option (codes "from")
    ∷ repeated (codes "cells") ∷ operator_port false ∷ flag (codes "fail-on-lost")
    ∷ flag (codes "json") ∷ [])

abbrev pub explain : VerbRules ToolVerb
explain = verb_rules (codes "explain") verb.Explain (input ∷ releases ∷ arrays ∷ [])

abbrev pub order : VerbRules ToolVerb
order = verb_rules (codes "order") verb.Order (input ∷ file (codes "OUT") ∷ [])

abbrev pub report : VerbRules ToolVerb
report = verb_rules (codes "report") verb.Report
    (files (codes "LOG") ∷ option (codes "since") ∷ option (codes "until")
    ∷ flag (codes "prometheus") ∷ option (codes "svg") ∷ option (codes "html")
    ∷ option (codes "folder") ∷ option (codes "state") ∷ flag (codes "heads")
    ∷ operator_port false ∷ [])

abbrev pub simulate : VerbRules ToolVerb
simulate = verb_rules (codes "simulate") verb.Simulate
    (manifest ∷ option (codes "against") ∷ option (codes "svg") ∷ option (codes "app")
    ∷ flag (codes "fail-on-lost") ∷ flag (codes "json") ∷ app_options)

abbrev pub stage : VerbRules ToolVerb
stage = verb_rules (codes "stage") verb.Stage
    (files (codes "ACTION") ∷ repeated (codes "operator") ∷ option (codes "folder")
    ∷ option (codes "log") ∷ option (codes "by") ∷ option (codes "because")
    ∷ flag (codes "no-load") ∷ flag (codes "dry-run") ∷ flag (codes "anyway")
    ∷ flag (codes "other-server") ∷ [])

abbrev pub trace : VerbRules ToolVerb
trace = verb_rules (codes "trace") verb.Trace (input ∷ releases ∷ arrays ∷ bucket ∷ app_options)

abbrev pub why : VerbRules ToolVerb
why = verb_rules (codes "why") verb.Why
    (manifest ∷ files (codes "LOG") ∷ option (codes "address") ∷ bucket ∷ option (codes "id")
    ∷ flag (codes "all") ∷ repeated (codes "cells") ∷ operator_port false ∷ [])

-- ---- all of them

-- in the order of their names
abbrev pub verbs : List (VerbRules ToolVerb)
verbs = ask ∷ check ∷ completion ∷ diff ∷ explain ∷ order ∷ report ∷ simulate ∷ stage ∷ trace
    ∷ why ∷ []

-- their grammar
abbrev pub tools : App
tools = app_of_rules verbs

abbrev pub names : List (Text × ToolVerb)
names = names_of_rules verbs

-- the command of a row in the code
abbrev pub rules_of_row : CommandRow ToolVerb → VerbRules ToolVerb
rules_of_row row = verb_rules row.name.now row.verb (map rule_of_argument row.arguments.now)
