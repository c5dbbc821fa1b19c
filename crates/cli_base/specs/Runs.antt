-- The run that the arguments of `run` and of `trace` describe.
use Rattle.std.specs.Prelude.{ℕ, List, Option, codes, option_copied}
use Rattle.clap.specs.Words.{Row}
use Rattle.cli_base.specs.AppOptions.{HasApp, HasAppBucket}
use Rattle.cli_base.specs.Values.{HasShape, HasText}
use Rattle.cli_base.specs.declared.app_args.AppArgs.{AppArgs}
use Rattle.cli_base.specs.declared.run_args.RunArgs.{RunArgs}

-- an app in its bucket
pub record HasPlaced (rows : List Row) (app : AppArgs) (bucket : Option ℕ) : Type 0 where
  pub app_is : HasApp rows app
  pub bucket_is : HasAppBucket rows (option_copied app.cohort) bucket

abbrev pub LacksPlaced : List Row → Type 0
LacksPlaced rows = (app : AppArgs) (bucket : Option ℕ) → ¬ HasPlaced rows app bucket

-- a run of a file's program, for an app in a bucket
pub record HasRun (rows : List Row) (run : RunArgs) : Type 0 where
  pub file : HasText (codes "IN") rows run.path.now
  pub declared : HasShape rows run.shape
  pub placed : HasPlaced rows run.app run.bucket

abbrev pub LacksRun : List Row → Type 0
LacksRun rows = (run : RunArgs) → ¬ HasRun rows run
