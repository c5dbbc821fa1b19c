-- The arguments of `report`.
use Rattle.std.specs.Prelude.{◌≡◌, ◌⊎◌, List, Option, Some, None, codes, map, option_copied}
use Rattle.std.specs.Prelude.{IfNone, IfSome, IsSome}
use Rattle.clap.specs.Words.{Row, Text, first_of}
use Rattle.cli_base.specs.Values.{HasFlag, HasShort, LacksShort, texts_of}
use Rattle.moments.specs.Moments.{Names, NamesNone}
use Rattle.moments.specs.declared.moment.NamedTime.{NamedTime}
use Rattle.cli_tool_words.specs.declared.args.ReportArgs.{ReportArgs}

-- the moment that an option names, if given
abbrev pub IsNamedTime : Option Text → Option NamedTime → Type 0
IsNamedTime None moment = moment ≡ None
IsNamedTime (Some text) (Some moment) = Names text moment
IsNamedTime (Some text) None = ⊥

abbrev pub LacksNamedTime : Option Text → Type 0
LacksNamedTime None = ⊥
LacksNamedTime (Some text) = NamesNone text

-- `--state` with a moment
abbrev pub MixesState : List Row → Type 0
MixesState rows = IsSome (first_of (codes "state") rows)
    × (IsSome (first_of (codes "since") rows) ⊎ IsSome (first_of (codes "until") rows))

-- `--folder` without a page
abbrev pub LacksPage : List Row → Type 0
LacksPage rows = IsSome (first_of (codes "folder") rows) × ¬ IsSome (first_of (codes "html") rows)

-- a report on logs, from one moment on and before another, or from the counts so far; with a
-- server's counters, if its port is given
pub record HasReport (rows : List Row) (args : ReportArgs) : Type 0 where
  pub logs : map (λ log. log.now) args.logs.items ≡ texts_of (codes "LOG") rows
  pub since : IsNamedTime (first_of (codes "since") rows) args.since
  pub until : IsNamedTime (first_of (codes "until") rows) args.until
  pub prometheus : HasFlag (codes "prometheus") rows args.prometheus
  pub picture : option_copied args.picture ≡ first_of (codes "svg") rows
  pub page : option_copied args.page ≡ first_of (codes "html") rows
  pub folder : option_copied args.folder ≡ first_of (codes "folder") rows
  pub state : option_copied args.state ≡ first_of (codes "state") rows
  pub heads : HasFlag (codes "heads") rows args.heads
  pub port : IfSome args.operator (HasShort (codes "operator") rows)
  pub no_port : IfNone args.operator (LacksShort (codes "operator") rows)
  pub unmixed : ¬ MixesState rows
  pub is_shown : ¬ LacksPage rows

abbrev pub LacksReport : List Row → Type 0
LacksReport rows = (args : ReportArgs) → ¬ HasReport rows args
