-- The request that a line of a log is about, as far as the line has it.
use Rattle.std.specs.Prelude.{ℕ, ℤ, List, [], ◌∷◌, Bool, true, false, ◌||◌, codes, nat_lt}
use Rattle.std.specs.Prelude.{Option, Some, None, is_some, option_and_then, option_map, unwrap_or}
use Rattle.std.specs.Prelude.{if◌then◌else◌}
use Rattle.serde_json.specs.Data.{Data, Items, item, no_items}
use Rattle.attrs.specs.Attributes.{Attributes}
use Rattle.attrs.specs.Bucket.{cohort_of_bucket}
use Rattle.attrs.specs.Facts.{attributes_of}
use Rattle.attrs.specs.declared.facts.AppFacts.{AppFacts}
use Rattle.attrs.specs.declared.facts.RequestFacts.{RequestFacts}
use Rattle.moments.specs.Rfc3339.{second_of_time}
use Rattle.report.specs.LogEvents.{flag_in, is_flag, list_in, number_in, text_in}
use Rattle.why_log.specs.declared.line_app.LineApp.{LineApp}
use Rattle.why_log.specs.declared.line_request.LineRequest.{LineRequest}

-- ---- an app

-- the bucket, by whatever it was chosen
abbrev pub bucket_in : Data → Option ℕ
bucket_in app =
    option_and_then (λ n. if nat_lt n 10000 then Some n else None) (number_in (codes "bucket") app)

-- a cohort named the bucket. There is one text that does, so the line needn't have it
abbrev pub is_named : Data → Bool
is_named app = is_flag true (flag_in (codes "named") app)

abbrev pub cohort_in : (bucket : ℕ) → Data → Option (List ℕ)
cohort_in bucket app = if is_named app then Some (cohort_of_bucket bucket) else None

-- a member of this name, or the number of its bytes, which replaces what doesn't fit the line
abbrev pub is_sent : (name cut : List ℕ) → Data → Bool
is_sent name cut app = is_some (text_in name app) || is_some (number_in cut app)

-- the facts of an app that a line has. An app that requested an update has a choice. No line has a
-- ping, so it counts as absent
abbrev pub facts_in : (appid : List ℕ) (bucket : ℕ) → Data → AppFacts
facts_in appid bucket app = record {
  appid = appid;
  version = text_in (codes "version") app;
  brand = text_in (codes "brand") app;
  ap = text_in (codes "ap") app;
  lang = text_in (codes "lang") app;
  cohort = cohort_in bucket app;
  installdate = number_in (codes "installdate") app;
  updatecheck = is_some (number_in (codes "choice") app);
  ping = false;
  event = is_sent (codes "event") (codes "event_left_out") app;
}

-- no line has the whole id of a request or of a session
abbrev pub request_facts_in : Data → RequestFacts
request_facts_in app =
    record { requestid = None; sessionid = None; platform = text_in (codes "platform") app }

-- an app with an appid and a bucket
abbrev pub app_in : Data → Option LineApp
app_in app =
    option_and_then (λ appid. option_map (λ bucket. record {
      facts = facts_in appid bucket app;
      request = request_facts_in app;
      bucket = bucket;
    }) (bucket_in app)) (text_in (codes "appid") app)

-- the attributes of an app at a moment: those of its facts, in the line's bucket
abbrev pub attributes_in : LineApp → ℤ → Attributes
attributes_in app moment = let all = attributes_of app.facts app.request moment in
    record all { context = record all.context { bucket = app.bucket } }

-- ---- a line

-- all of them, in their order
abbrev pub apps_in : Items → Option (List LineApp)
apps_in no_items = Some []
apps_in (item d ds) =
    option_and_then (λ app. option_map (λ apps. app ∷ apps) (apps_in ds)) (app_in d)

abbrev pub moment_in : Data → Option ℤ
moment_in line = option_and_then second_of_time (text_in (codes "time") line)

abbrev pub listed_in : Data → Items
listed_in line = unwrap_or (list_in (codes "apps") line) no_items

-- the request of a connection's line: its moment, and its apps
pub record Request : Type 0 where
  pub moment : ℤ
  pub apps : List LineApp

abbrev pub request_of : LineRequest → Request
request_of r = record { moment = r.moment; apps = r.apps.items }

abbrev pub request_in : Data → Option Request
request_in line =
    option_and_then (λ moment. option_map (λ apps. record { moment = moment; apps = apps })
    (apps_in (listed_in line))) (moment_in line)
