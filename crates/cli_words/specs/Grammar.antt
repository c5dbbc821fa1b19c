-- The commands of the program, with their arguments.
use Rattle.std.specs.Prelude.{pos, List, [], ◌∷◌, ◌++◌, false, codes}
use Rattle.clap.specs.Words.{App, Rule, Text}
use Rattle.cli_base.specs.Grammar.{VerbRules, app_of_rules, app_options, arrays, bucket, file}
use Rattle.cli_base.specs.Grammar.{flag, input, manifest, names_of_rules, operator, option}
use Rattle.cli_base.specs.Grammar.{ranged}
use Rattle.cli_base.specs.Grammar.{releases, required_number, verbose}
use Rattle.cli_words.specs.declared.verb.Verb.{Verb}
use Rattle.cli_words.specs.declared.verb.Verb.TheVariants as verb

-- `--timeout S`, 30 by default
abbrev pub timeout : Rule
timeout = ranged (codes "timeout") (pos 1) (pos 3600) false (codes "30" ∷ [])

-- `--wait-counters S`
abbrev pub wait_counters : Rule
wait_counters = ranged (codes "wait-counters") (pos 1) (pos 3600) false []

-- a command with these arguments and `--verbose`
abbrev pub verb_rules : Text → Verb → List Rule → VerbRules Verb
verb_rules name verb arguments =
    record { name = name; verb = verb; rules = arguments ++ verbose ∷ [] }

-- all commands, in the order of their names
abbrev pub verbs : List (VerbRules Verb)
verbs =
    verb_rules (codes "asm") verb.Assemble (input ∷ file (codes "OUT") ∷ [])
    ∷ verb_rules (codes "cells") verb.Cells (operator ∷ [])
    ∷ verb_rules (codes "compile") verb.Compile
    (input ∷ file (codes "OUT") ∷ releases ∷ arrays ∷ [])
    ∷ verb_rules (codes "halt") verb.Halt (file (codes "APPID") ∷ operator ∷ [])
    ∷ verb_rules (codes "list") verb.List (input ∷ [])
    ∷ verb_rules (codes "load") verb.Load (file (codes "PATH") ∷ operator ∷ [])
    ∷ verb_rules (codes "replay") verb.Replay (manifest ∷ file (codes "SCRIPT") ∷ [])
    ∷ verb_rules (codes "resume") verb.Resume (file (codes "APPID") ∷ operator ∷ [])
    ∷ verb_rules (codes "run") verb.Run
    (input ∷ releases ∷ arrays ∷ bucket ∷ flag (codes "trace") ∷ app_options)
    ∷ verb_rules (codes "serve") verb.Serve
    (manifest ∷ required_number (codes "port") 1 65535 ∷ operator
    ∷ required_number (codes "workers") 1 64 ∷ timeout ∷ option (codes "counters")
    ∷ wait_counters ∷ flag (codes "log") ∷ [])
    ∷ verb_rules (codes "show") verb.Show (operator ∷ [])
    ∷ verb_rules (codes "state") verb.State (operator ∷ [])
    ∷ verb_rules (codes "stop") verb.Stop (operator ∷ flag (codes "wait") ∷ [])
    ∷ verb_rules (codes "verify") verb.Verify (input ∷ releases ∷ arrays ∷ []) ∷ []

abbrev pub names : List (Text × Verb)
names = names_of_rules verbs

abbrev pub commands : App
commands = app_of_rules verbs
