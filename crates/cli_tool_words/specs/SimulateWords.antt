-- The arguments of `simulate`.
use Rattle.std.specs.Prelude.{◌≡◌, ◌⊎◌, List, codes, IsNone, option_copied}
use Rattle.clap.specs.Words.{Row, Text, first_of}
use Rattle.cli_base.specs.AppOptions.{HasApp}
use Rattle.cli_base.specs.Values.{HasFlag, HasText}
use Rattle.cli_base.specs.declared.app_args.AppArgs.{AppArgs}
use Rattle.cli_tool_words.specs.declared.args.SimulateArgs.{SimulateArgs}

-- the app names no client: it has neither an appid nor a cohort
abbrev pub IsAnyones : AppArgs → Type 0
IsAnyones app = IsNone (option_copied app.appid) × IsNone (option_copied app.cohort)

-- the options describe such an app
pub record HasAnyone (rows : List Row) (app : AppArgs) : Type 0 where
  pub app_is : HasApp rows app
  pub anyones : IsAnyones app

abbrev pub LacksAnyone : List Row → Type 0
LacksAnyone rows = (app : AppArgs) → ¬ HasAnyone rows app

-- the picture's file is one of the manifests, by the same text
abbrev pub WritesOver : List Row → Type 0
WritesOver rows =
    (file : Text) × HasText (codes "svg") rows file
    × (HasText (codes "MANIFEST") rows file ⊎ HasText (codes "against") rows file)

-- `--fail-on-lost` without `--against`
abbrev pub WantsAgainst : List Row → Type 0
WantsAgainst rows =
    HasText (codes "fail-on-lost") rows (codes "true") × IsNone (first_of (codes "against") rows)

-- a simulation of a manifest's ruleset, and perhaps of the one that is served at present
pub record HasSimulate (rows : List Row) (args : SimulateArgs) : Type 0 where
  pub file : HasText (codes "MANIFEST") rows args.manifest.now
  pub against : option_copied args.against ≡ first_of (codes "against") rows
  pub picture : option_copied args.picture ≡ first_of (codes "svg") rows
  pub kept : ¬ WritesOver rows
  pub clients : HasAnyone rows args.app
  pub appid : option_copied args.appid ≡ first_of (codes "app") rows
  pub lost : HasFlag (codes "fail-on-lost") rows args.fail_on_lost
  pub json : HasFlag (codes "json") rows args.json
  pub compared : ¬ WantsAgainst rows

abbrev pub LacksSimulate : List Row → Type 0
LacksSimulate rows = (args : SimulateArgs) → ¬ HasSimulate rows args
