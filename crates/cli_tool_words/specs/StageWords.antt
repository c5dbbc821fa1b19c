-- The arguments of `stage`.
use Rattle.std.specs.Prelude.{◌≡◌, ◌≤◌, ℕ, List, [], ◌∷◌, length, codes, IfSome}
use Rattle.std.specs.Prelude.{Option, Some, None, option_copied, unwrap_or}
use Rattle.clap.specs.Words.{Row, Text, first_of}
use Rattle.cli_base.specs.Values.{HasFlag, texts_of}
use Rattle.lexing.specs.Decimal.{decimal_within}
use Rattle.cli_tool_words.specs.AskWords.{joined}
use Rattle.cli_tool_words.specs.Buckets.{GivesBuckets}
use Rattle.stage_records.specs.declared.action.StageAction.{StageAction}
use Rattle.stage_records.specs.declared.action.StageAction.TheVariants as action
use Rattle.cli_tool_words.specs.declared.args.StageArgs.{StageArgs}

-- ---- the action

-- the words spell this action
abbrev pub Spell : List Text → StageAction → Type 0
Spell words (action.Halt appid) = words ≡ codes "halt" ∷ appid.now ∷ []
Spell words (action.HaltRelease appid version) =
    words ≡ codes "halt" ∷ appid.now ∷ version.now ∷ []
Spell words (action.Raise appid buckets) = (number : Text)
    × (words ≡ codes "raise" ∷ appid.now ∷ number ∷ []) × GivesBuckets number buckets
Spell words (action.Resume appid None) = words ≡ codes "resume" ∷ appid.now ∷ []
Spell words (action.Resume appid (Some buckets)) = (number : Text)
    × (words ≡ codes "resume" ∷ appid.now ∷ number ∷ []) × GivesBuckets number buckets
Spell words action.Back = words ≡ codes "back" ∷ []
Spell words (action.Put manifest) = words ≡ codes "put" ∷ manifest.now ∷ []
Spell words action.Status = words ≡ codes "status" ∷ []
Spell words (action.History None) = words ≡ codes "history" ∷ []
Spell words (action.History (Some appid)) = words ≡ codes "history" ∷ appid.now ∷ []

abbrev pub SpellNone : List Text → Type 0
SpellNone words = (action : StageAction) → ¬ Spell words action

-- ---- the servers

abbrev pub port_in : Text → Option ℕ
port_in text = decimal_within 1 65535 text

-- the ports that all texts give
abbrev pub ports_in : List Text → Option (List ℕ)
ports_in [] = Some []
ports_in (text ∷ more) = joined (port_in text) (ports_in more)

-- ---- notes

-- the text of an option, if it is given, which has at most 1,024 bytes
abbrev pub HasNote : Text → List Row → Option Text → Type 0
HasNote id rows note = (note ≡ first_of id rows) × IfSome note (λ text. length text ≤ 1024)

abbrev pub LacksNote : Text → List Row → Type 0
LacksNote id rows = (note : Option Text) → ¬ HasNote id rows note

-- ---- all words

-- an action on the files of a folder, and the servers that load the result
pub record HasStage (rows : List Row) (args : StageArgs) : Type 0 where
  pub action : Spell (texts_of (codes "ACTION") rows) args.action
  pub operators : ports_in (texts_of (codes "operator") rows) ≡ Some args.operators.items
  pub folder : args.folder.now ≡ unwrap_or (first_of (codes "folder") rows) (codes "/etc/rollout")
  pub log : option_copied args.log ≡ first_of (codes "log") rows
  pub user : HasNote (codes "by") rows (option_copied args.user)
  pub because : HasNote (codes "because") rows (option_copied args.because)
  pub no_load : HasFlag (codes "no-load") rows args.no_load
  pub dry_run : HasFlag (codes "dry-run") rows args.dry_run
  pub anyway : HasFlag (codes "anyway") rows args.anyway
  pub other_server : HasFlag (codes "other-server") rows args.other_server

abbrev pub LacksStage : List Row → Type 0
LacksStage rows = (args : StageArgs) → ¬ HasStage rows args
