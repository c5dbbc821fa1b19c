-- The arguments of `diff`.
use Rattle.std.specs.Prelude.{◌≡◌, List, codes, IfNone, IfSome, Some, option_copied}
use Rattle.clap.specs.Words.{Row, first_of}
use Rattle.cli_base.specs.Seconds.{day_by}
use Rattle.cli_base.specs.Values.{HasFlag, HasShort, HasText, LacksShort}
use Rattle.cli_tool_words.specs.AskWords.{HasCells}
use Rattle.cli_tool_words.specs.declared.args.DiffArgs.{DiffArgs}

-- a manifest, the next one, and which apps, machines and counters are compared
pub record HasDiff (rows : List Row) (args : DiffArgs) : Type 0 where
  pub old : HasText (codes "OLD") rows args.old.now
  pub new : HasText (codes "NEW") rows args.new.now
  pub appid : option_copied args.appid ≡ first_of (codes "app") rows
  pub from : day_by (first_of (codes "from") rows) ≡ Some args.from
  pub cells : HasCells rows args.cells.items
  pub port : IfSome args.operator (HasShort (codes "operator") rows)
  pub no_port : IfNone args.operator (LacksShort (codes "operator") rows)
  pub lost : HasFlag (codes "fail-on-lost") rows args.fail_on_lost
  pub json : HasFlag (codes "json") rows args.json

abbrev pub LacksDiff : List Row → Type 0
LacksDiff rows = (args : DiffArgs) → ¬ HasDiff rows args
