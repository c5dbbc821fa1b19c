-- The app that the options describe.
use Rattle.std.specs.Prelude.{◌≡◌, ◌≢◌, ℕ, ◌+◌, List, [], ◌∷◌, Option, Some, None}
use Rattle.std.specs.Prelude.{is_some}
use Rattle.std.specs.Prelude.{length, drop, codes, nat_eq, IsSomeAnd, option_map}
use Rattle.std.specs.Prelude.{if◌then◌else◌}
use Rattle.std.specs.Option.{option_and_then, option_copied, option_or}
use Rattle.std.specs.List.{starts_with}
use Rattle.attrs.specs.Bucket.{cohort_bucket}
use Rattle.clap.specs.Words.{Row, Text, first_of}
use Rattle.cli_base.specs.declared.app_args.AppArgs.{AppArgs}
use Rattle.cli_base.specs.Day.{day_in}
use Rattle.cli_base.specs.Seconds.{moment_in}
use Rattle.cli_base.specs.Values.{HasBucket, HasFlag, texts_of}

-- ---- attributes

-- all texts NAME=TEXT of `--attr`
abbrev pub given : List Row → List Text
given rows = texts_of (codes "attr") rows

-- the rest of a text after this prefix
abbrev pub value_of : Text → (beginning : Text) → Option Text
value_of text beginning =
    if starts_with nat_eq text beginning then Some (drop (length beginning) text) else None

-- the rest of the first text with this prefix
abbrev pub value_in : List Text → (beginning : Text) → Option Text
value_in [] beginning = None
value_in (text ∷ rest) beginning = option_or (value_of text beginning) (value_in rest beginning)

abbrev pub count_text : Option Text → ℕ
count_text text = if is_some text then 1 else 0

abbrev pub count_attributes : AppArgs → ℕ
count_attributes app =
    count_text (option_copied app.appid) + count_text (option_copied app.brand)
    + count_text (option_copied app.ap) + count_text (option_copied app.lang)
    + count_text (option_copied app.cohort) + count_text (option_copied app.platform)

-- the app has these attributes
pub record HasAttributes (rows : List Row) (app : AppArgs) : Type 0 where
  pub appid : option_copied app.appid ≡ value_in (given rows) (codes "appid=")
  pub version : option_copied app.version ≡ first_of (codes "version") rows
  pub brand : option_copied app.brand ≡ value_in (given rows) (codes "brand=")
  pub ap : option_copied app.ap ≡ value_in (given rows) (codes "ap=")
  pub lang : option_copied app.lang ≡ value_in (given rows) (codes "lang=")
  pub cohort : option_copied app.cohort ≡ value_in (given rows) (codes "cohort=")
  pub platform : option_copied app.platform ≡ value_in (given rows) (codes "platform=")

-- a text gives none of them, or gives one again
abbrev pub LacksAttributes : List Row → Type 0
LacksAttributes rows =
    (app : AppArgs) → HasAttributes rows app → length (given rows) ≢ count_attributes app

-- ---- the day of the installation

-- unknown without the option
abbrev pub install_day : Option Text → Option (Option ℕ)
install_day None = Some None
install_day (Some text) = option_map Some (day_in 4294967294 text)

-- ---- an app

-- the options describe this app: each text gives one of its attributes, and no two give the same
pub record HasApp (rows : List Row) (app : AppArgs) : Type 0 where
  pub attributes : HasAttributes rows app
  pub each : length (given rows) ≡ count_attributes app
  pub ping : HasFlag (codes "ping") rows app.ping
  pub event : HasFlag (codes "event") rows app.event
  pub moment : moment_in rows ≡ Some app.moment
  pub installed : install_day (first_of (codes "installed") rows) ≡ Some app.installed

abbrev pub LacksApp : List Row → Type 0
LacksApp rows = (app : AppArgs) → ¬ HasApp rows app

-- ---- its bucket

-- `None` if the cohort names a bucket, and then `--bucket` is an error; else that of `--bucket`, or
-- 0 without it
abbrev pub IsGivenBucket : List Row → (named : Option ℕ) → (text : Option Text) → Option ℕ
    → Type 0
IsGivenBucket rows (Some named) (Some text) bucket = ⊥
IsGivenBucket rows (Some named) None bucket = bucket ≡ None
IsGivenBucket rows None (Some text) bucket = IsSomeAnd bucket (HasBucket rows)
IsGivenBucket rows None None bucket = bucket ≡ Some 0

abbrev pub LacksGivenBucket : List Row → (named : Option ℕ) → (text : Option Text) → Type 0
LacksGivenBucket rows named text = (bucket : Option ℕ) → ¬ IsGivenBucket rows named text bucket

abbrev pub HasAppBucket : List Row → (cohort : Option Text) → Option ℕ → Type 0
HasAppBucket rows cohort bucket =
    IsGivenBucket rows (option_and_then cohort_bucket cohort) (first_of (codes "bucket") rows)
    bucket

abbrev pub LacksAppBucket : List Row → (cohort : Option Text) → Type 0
LacksAppBucket rows cohort = (bucket : Option ℕ) → ¬ HasAppBucket rows cohort bucket
