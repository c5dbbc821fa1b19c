-- The app that the options describe, as in its request: an update check at a moment.
use Rattle.std.specs.Prelude.{ℕ, ℤ, [], Option, Some, None, option_copied}
use Rattle.std.specs.Prelude.{unwrap_or, true}
use Rattle.attrs.specs.Attributes.{Attributes}
use Rattle.attrs.specs.Facts.{attributes_of}
use Rattle.attrs.specs.declared.facts.AppFacts.{AppFacts}
use Rattle.attrs.specs.declared.facts.RequestFacts.{RequestFacts}
use Rattle.cli_base.specs.declared.app_args.AppArgs.{AppArgs}

-- the app's part of its request; without an appid that text is empty
abbrev pub app_facts : AppArgs → AppFacts
app_facts app = record {
  appid = unwrap_or (option_copied app.appid) [];
  version = option_copied app.version;
  brand = option_copied app.brand;
  ap = option_copied app.ap;
  lang = option_copied app.lang;
  cohort = option_copied app.cohort;
  installdate = app.installed;
  updatecheck = true;
  ping = app.ping;
  event = app.event;
}

abbrev pub request_facts : AppArgs → RequestFacts
request_facts app = record {
  requestid = None;
  sessionid = None;
  platform = option_copied app.platform;
}

abbrev pub moment : AppArgs → ℤ
moment app = app.moment

-- in a bucket of its own, or in that of its cohort
abbrev pub placed : Option ℕ → Attributes → Attributes
placed None a = a
placed (Some bucket) a = record a { context = record a.context { bucket = bucket } }

-- the attributes of the app that the options describe, in its bucket, with an update check
abbrev pub app_attributes : AppArgs → (bucket : Option ℕ) → Attributes
app_attributes app bucket =
    placed bucket (attributes_of (app_facts app) (request_facts app) (moment app))
