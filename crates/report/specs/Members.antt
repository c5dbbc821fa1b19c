-- What a report reads of a line of a log, and of the apps in it.
use Rattle.std.specs.Prelude.{ℕ, List, [], ◌∷◌, ◌++◌, codes, decimal, unwrap_or}
use Rattle.std.specs.Prelude.{Bool, Option, Some, None, if◌then◌else◌}
use Rattle.serde_json.specs.Data.{Data, Items, no_items, item}
use Rattle.report.specs.LogEvents.{flag_in, is_text, list_in, number_in, text_in}

-- of an app
pub record AppMembers : Type 0 where
  pub appid : Option (List ℕ)
  pub version : Option (List ℕ)
  pub release : Option (List ℕ)
  pub event : Option (List ℕ)
  pub choice : Option ℕ
  pub bucket : Option ℕ
  pub event_left_out : Option ℕ
  pub unknown : Option Bool
  pub named : Option Bool

abbrev pub app_members : Data → AppMembers
app_members app = record {
  appid = text_in (codes "appid") app;
  version = text_in (codes "version") app;
  release = text_in (codes "release") app;
  event = text_in (codes "event") app;
  choice = number_in (codes "choice") app;
  bucket = number_in (codes "bucket") app;
  event_left_out = number_in (codes "event_left_out") app;
  unknown = flag_in (codes "unknown") app;
  named = flag_in (codes "named") app;
}

abbrev pub each_app : Items → List AppMembers
each_app no_items = []
each_app (item app apps) = app_members app ∷ each_app apps

abbrev pub apps_if : Option Items → List AppMembers
apps_if (Some apps) = each_app apps
apps_if None = []

-- only a connection has apps; a kind of line that isn't known has none
abbrev pub apps_in : Data → List AppMembers
apps_in line =
    if is_text (codes "connection") (text_in (codes "kind") line)
    then apps_if (list_in (codes "apps") line) else []

-- a line of totals
abbrev pub is_totals : Data → Bool
is_totals line = is_text (codes "totals") (text_in (codes "kind") line)

-- a number of a line of totals, or 0
abbrev pub totals_number : (name : List ℕ) → Data → ℕ
totals_number name line = if is_totals line then unwrap_or (number_in name line) 0 else 0

-- each status with the number of replies of it
abbrev pub each_status : Data → (statuses : List ℕ) → List (ℕ × ℕ)
each_status line [] = []
each_status line (status ∷ statuses) =
    (status, totals_number (codes "status_" ++ decimal status) line) ∷ each_status line statuses

-- the statuses of a server's replies
abbrev pub all_statuses : List ℕ
all_statuses = 200 ∷ 400 ∷ 404 ∷ 405 ∷ 411 ∷ 413 ∷ 431 ∷ 500 ∷ 503 ∷ []

abbrev pub responses_in : Data → List (ℕ × ℕ)
responses_in line = if is_totals line then each_status line all_statuses else []

-- of a line
pub record LineMembers : Type 0 where
  pub time : Option (List ℕ)
  pub kind : Option (List ℕ)
  pub refusal : Option (List ℕ)
  pub path : Option (List ℕ)
  pub digest : Option (List ℕ)
  pub status : Option ℕ
  pub generation : Option ℕ
  pub lines : Option ℕ
  pub left_out : Option ℕ
  pub offers_left_out : Option ℕ
  pub id : Option Bool
  pub apps : List AppMembers
  -- of a line of totals; none and 0 in others
  pub responses : List (ℕ × ℕ)
  pub dropped : ℕ
  pub longest_wait : ℕ

abbrev pub line_members : Data → LineMembers
line_members line = record {
  time = text_in (codes "time") line;
  kind = text_in (codes "kind") line;
  refusal = text_in (codes "refusal") line;
  path = text_in (codes "path") line;
  digest = text_in (codes "digest") line;
  status = number_in (codes "status") line;
  generation = number_in (codes "generation") line;
  lines = number_in (codes "lines") line;
  left_out = number_in (codes "left_out") line;
  offers_left_out = number_in (codes "offers_left_out") line;
  id = flag_in (codes "id") line;
  apps = apps_in line;
  responses = responses_in line;
  dropped = totals_number (codes "dropped") line;
  longest_wait = totals_number (codes "longest_wait") line;
}
