-- The attributes of an app, from its facts in a request and the moment of the request.
use Rattle.std.specs.Prelude.{ℕ, ◌+◌, ℤ, List, [], ◌∷◌, map, replicate, Bool, nat_lt, Option}
use Rattle.std.specs.Prelude.{Some, None, is_some, option_and_then, unwrap_or, if◌then◌else◌}
use Rattle.attrs.specs.declared.facts.AppFacts.{AppFacts}
use Rattle.attrs.specs.declared.facts.RequestFacts.{RequestFacts}
use Rattle.attrs.specs.Attributes.{Attributes, kept_text}
use Rattle.attrs.specs.Bucket.{named_bucket, hashed_bucket}
use Rattle.attrs.specs.Context.{Context, version_known, updatecheck, ping, event}
use Rattle.attrs.specs.Context.{cohort_known, installdate_known, unknown_day}
use Rattle.attrs.specs.Moment.{elapsed_days, elapsed_seconds}
use Rattle.attrs.specs.Version.{version_of}

-- a version text over 1024 bytes also gives its numbers
abbrev pub app_version : AppFacts → Option (List ℕ)
app_version app = option_and_then version_of app.version

-- 4294967295 means an unknown day, so no day is that number
abbrev pub known_day : Option ℕ → Option ℕ
known_day (Some day) = if nat_lt day unknown_day then Some day else None
known_day None = None

abbrev pub flag : Bool → ℕ → ℕ
flag holds number = if holds then number else 0

-- which facts of the app can be read
abbrev pub known_flags : AppFacts → ℕ
known_flags app =
    flag (is_some (app_version app)) version_known
    + flag (is_some (named_bucket app)) cohort_known
    + flag (is_some (known_day app.installdate)) installdate_known

-- what the app requests
abbrev pub requested_flags : AppFacts → ℕ
requested_flags app = flag app.updatecheck updatecheck + flag app.ping ping + flag app.event event

-- an app that names no bucket is in its request's hashed one
abbrev pub context_in : (app : AppFacts) (hashed : ℕ) (moment : ℤ) → Context
context_in app hashed moment = record {
  version = unwrap_or (app_version app) (replicate 4 0);
  bucket = unwrap_or (named_bucket app) hashed;
  flags = known_flags app + requested_flags app;
  install_day = unwrap_or (known_day app.installdate) unknown_day;
  today = elapsed_days moment;
  seconds = elapsed_seconds moment;
}

abbrev pub context_of : AppFacts → RequestFacts → ℤ → Context
context_of app request moment = context_in app (hashed_bucket request) moment

-- the texts in their order, as they are kept
abbrev pub texts_with : AppFacts → (platform : Option (List ℕ)) → List (List ℕ)
texts_with app platform = map kept_text (
    Some app.appid ∷ app.version ∷ app.brand ∷ app.ap ∷ app.lang ∷ app.cohort ∷ platform ∷ [])

abbrev pub texts_of : AppFacts → RequestFacts → List (List ℕ)
texts_of app request = texts_with app request.platform

abbrev pub attributes_of : AppFacts → RequestFacts → ℤ → Attributes
attributes_of app request moment = record {
  context = context_of app request moment;
  texts = texts_of app request;
}
