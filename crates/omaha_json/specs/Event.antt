-- The text of an app's member `event`.
use Rattle.std.specs.Prelude.{◌≡◌, ℕ, ◌≤◌, List, codes, false, Option, Some, None}
use Rattle.std.specs.Prelude.{is_some, option_and_then, if◌then◌else◌}
use Rattle.serde_json.specs.Data.{Data, depth}
use Rattle.serde_json.specs.Find.{get, as_null}
use Rattle.serde_json.specs.Read.{read, max_depth}
use Rattle.serde_json.specs.Written.{compact_text, has_float}

-- a value, if it isn't null
abbrev pub unless_null : Data → Option Data
unless_null d = if is_some (as_null d) then None else Some d

-- the member, if it exists and isn't null
abbrev pub event_in : Data → Option Data
event_in app = option_and_then unless_null (get (codes "event") app)

-- a JSON text of a value: it reads as the value if that isn't nested too deeply, and is compact if
-- no number is a float
pub record IsJsonOf (d : Data) (text : List ℕ) : Type 0 where
  pub reads_back : depth d ≤ max_depth → read text ≡ Some d
  pub compact : has_float d ≡ false → text ≡ compact_text d

-- such a text of the event, if there is one
abbrev pub IsEventText : Option Data → Option (List ℕ) → Type 0
IsEventText (Some d) (Some text) = IsJsonOf d text
IsEventText (Some d) None = ⊥
IsEventText None (Some text) = ⊥
IsEventText None None = Unit {0}
