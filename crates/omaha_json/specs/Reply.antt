-- The reply to a request, by this project's profile of Omaha 3.1: its JSON value, and its bytes.
use Rattle.std.specs.Prelude.{ℕ, ℤ, List, [], ◌∷◌, ◌++◌, codes}
use Rattle.std.specs.Prelude.{Bool, true, false, Option, Some, None}
use Rattle.serde_json.specs.Data.{Data, number, string, array, object, unsigned}
use Rattle.serde_json.specs.Data.{Items, no_items, item, Members, no_members, member}
use Rattle.serde_json.specs.Written.{compact_text}
use Rattle.attrs.specs.declared.facts.AppFacts.{AppFacts}
use Rattle.attrs.specs.Bucket.{cohort_of_bucket}
use Rattle.attrs.specs.Moment.{elapsed_days, elapsed_seconds}
use Rattle.releases.specs.Release.{Release}
use Rattle.omaha_json.specs.Found.{FoundApp}
use Rattle.omaha_json.specs.Update.{only, status_value, update_value, release_at}

-- the `status` of a known app and, if a run was made, the reply to its `updatecheck`
abbrev pub answered : List Release → Option ℕ → Members
answered releases (Some choice) =
    member (codes "status") (string (codes "ok")) (
    member (codes "updatecheck") (update_value (release_at releases choice))
    no_members)
answered releases None = member (codes "status") (string (codes "ok")) no_members

-- these members, after the reply to `ping` if the request had one
abbrev pub pinged : Bool → Members → Members
pinged true rest = member (codes "ping") (status_value (codes "ok")) rest
pinged false rest = rest

-- an app that is in the ruleset
abbrev pub listed_value : AppFacts → FoundApp → Data
listed_value app found = object (
    member (codes "appid") (string app.appid) (
    member (codes "cohort") (string (cohort_of_bucket found.bucket)) (
    pinged app.ping (answered found.releases found.choice))))

-- an app that isn't in the ruleset
abbrev pub unknown_value : List ℕ → Data
unknown_value appid = object (
    member (codes "appid") (string appid) (
    member (codes "status") (string (codes "error-unknownApplication"))
    no_members))

-- the object of an app, in the ruleset or not
abbrev pub app_value : AppFacts → Option FoundApp → Data
app_value app (Some found) = listed_value app found
app_value app None = unknown_value app.appid

-- the apps, each with what the ruleset has for it
abbrev pub app_values : List AppFacts → List (Option FoundApp) → Items
app_values (app ∷ apps) (found ∷ others) = item (app_value app found) (app_values apps others)
app_values (app ∷ apps) [] = no_items
app_values [] found = no_items

-- ---- the whole

abbrev pub daystart_value : ℤ → Data
daystart_value moment = object (
    member (codes "elapsed_days") (number (unsigned (elapsed_days moment))) (
    member (codes "elapsed_seconds") (number (unsigned (elapsed_seconds moment)))
    no_members))

abbrev pub response_value : List ℕ → List AppFacts → List (Option FoundApp) → ℤ → Data
response_value server apps found moment = object (
    member (codes "app") (array (app_values apps found)) (
    member (codes "daystart") (daystart_value moment) (
    member (codes "protocol") (string (codes "3.1")) (
    member (codes "server") (string server)
    no_members))))

abbrev pub reply_value : List ℕ → List AppFacts → List (Option FoundApp) → ℤ → Data
reply_value server apps found moment =
    only (codes "response") (response_value server apps found moment)

-- what precedes the value, so that no script can read it as its own
abbrev pub guard : List ℕ
guard = codes ")]}'" ++ 10 ∷ []

-- the bytes of a reply, by what was found for each app
unfoldable pub found_text : List ℕ → List AppFacts → List (Option FoundApp) → ℤ → List ℕ
found_text server apps found moment =
    guard ++ compact_text (reply_value server apps found moment)
