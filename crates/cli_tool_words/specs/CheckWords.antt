-- The arguments of `check`.
use Rattle.std.specs.Prelude.{◌≡◌, List, Bool, true, codes, map}
use Rattle.std.specs.List.{list_all}
use Rattle.clap.specs.Words.{Row}
use Rattle.cli_base.specs.Values.{HasFlag, texts_of}
use Rattle.cli_tool_words.specs.declared.args.CheckArgs.{CheckArgs}
use Rattle.warnings.specs.Names.{is_warning_name}

-- each text of `--allow` is the name of a warning
abbrev pub are_warning_names : List Row → Bool
are_warning_names rows = list_all is_warning_name (texts_of (codes "allow") rows)

-- a check of manifests; with `--strict` each warning that isn't allowed counts
pub record HasCheck (rows : List Row) (args : CheckArgs) : Type 0 where
  pub manifests : map (λ path. path.now) args.manifests.items
      ≡ texts_of (codes "MANIFEST") rows
  pub strict : HasFlag (codes "strict") rows args.strict
  pub allowed : map (λ name. name.now) args.allowed.items ≡ texts_of (codes "allow") rows
  pub json : HasFlag (codes "json") rows args.json
  pub named : are_warning_names rows ≡ true

abbrev pub LacksCheck : List Row → Type 0
LacksCheck rows = (args : CheckArgs) → ¬ HasCheck rows args
