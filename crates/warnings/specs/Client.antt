-- The client of a condition: besides its appid and version, it sends what the condition's tests
-- require.
use Rattle.std.specs.Prelude.{ℕ, ◌+◌, ◌*◌, ℤ, pos, List, true, codes}
use Rattle.std.specs.Prelude.{Option, Some, None, unwrap_or, if◌then◌else◌}
use Rattle.std.specs.Option.{option_or}
use Rattle.attrs.specs.declared.facts.AppFacts.{AppFacts}
use Rattle.attrs.specs.declared.facts.RequestFacts.{RequestFacts}
use Rattle.attrs.specs.declared.vocabulary.Attribute.TheVariants.{Brand, Ap, Lang, Cohort, Platform}
use Rattle.attrs.specs.declared.vocabulary.Flag.TheVariants.{Ping, Event, CohortKnown}
use Rattle.attrs.specs.Attributes.{Attributes}
use Rattle.attrs.specs.Facts.{context_in, texts_of}
use Rattle.attrs.specs.Moment.{first_second}
use Rattle.rule_lang.specs.declared.condition.Step.{Step}
use Rattle.warnings.specs.declared.wanted.DayOf.TheVariants as day
use Rattle.warnings.specs.Wanted.{wanted_day, wanted_text, wants}

-- for `flag cohort_known` alone, the cohort of bucket 0, for which `bucket < n` holds
abbrev pub known_cohort : List Step → Option (List ℕ)
known_cohort steps = if wants CohortKnown steps then Some (codes "b:0000") else None

abbrev pub cohort_for : List Step → Option (List ℕ)
cohort_for steps = option_or (wanted_text Cohort steps) (known_cohort steps)

abbrev pub app_for : (appid version : List ℕ) → List Step → AppFacts
app_for appid version steps = record {
  appid = appid;
  version = Some version;
  brand = wanted_text Brand steps;
  ap = wanted_text Ap steps;
  lang = wanted_text Lang steps;
  cohort = cohort_for steps;
  installdate = wanted_day day.Installation steps;
  updatecheck = true;
  ping = wants Ping steps;
  event = wants Event steps;
}

abbrev pub request_for : List Step → RequestFacts
request_for steps = record {
  requestid = None;
  sessionid = None;
  platform = wanted_text Platform steps;
}

-- the first second of the day that the tests require, or of day 0
abbrev pub moment_for : List Step → ℤ
moment_for steps = pos (first_second + 86400 * unwrap_or (wanted_day day.Request steps) 0)

-- the attributes of an app whose request's id hashes to this bucket
abbrev pub attributes_in : AppFacts → RequestFacts → ℤ → (hashed : ℕ) → Attributes
attributes_in app request moment hashed = record {
  context = context_in app hashed moment;
  texts = texts_of app request;
}
