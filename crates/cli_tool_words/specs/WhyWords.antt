-- The arguments of `why`.
use Rattle.std.specs.Prelude.{◌≡◌, List, codes, map, option_copied, IfNone, IfSome}
use Rattle.clap.specs.Words.{Row, first_of}
use Rattle.cli_base.specs.Values.{HasFlag, HasShort, HasText, LacksShort, texts_of}
use Rattle.cli_tool_words.specs.AskWords.{HasCells}
use Rattle.cli_tool_words.specs.declared.args.WhyArgs.{WhyArgs}

-- the requests of a machine in logs, explained by a manifest, with counters from `--cells` or from
-- a server
pub record HasWhy (rows : List Row) (args : WhyArgs) : Type 0 where
  pub manifest : HasText (codes "MANIFEST") rows args.manifest.now
  pub logs : map (λ log. log.now) args.logs.items ≡ texts_of (codes "LOG") rows
  pub address : option_copied args.address ≡ first_of (codes "address") rows
  pub bucket : IfSome args.bucket (HasShort (codes "bucket") rows)
  pub no_bucket : IfNone args.bucket (LacksShort (codes "bucket") rows)
  pub id : option_copied args.id ≡ first_of (codes "id") rows
  pub all : HasFlag (codes "all") rows args.all
  pub cells : HasCells rows args.cells.items
  pub port : IfSome args.operator (HasShort (codes "operator") rows)
  pub no_port : IfNone args.operator (LacksShort (codes "operator") rows)

abbrev pub LacksWhy : List Row → Type 0
LacksWhy rows = (args : WhyArgs) → ¬ HasWhy rows args
