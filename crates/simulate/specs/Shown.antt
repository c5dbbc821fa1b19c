-- The results of a simulation: for each app its releases, by their versions, and each bucket's
-- choice. The choice 0 is none, and K, 1 to 64, is the K-th release. An app has 10000 choices, one
-- for each bucket, in order.
use Rattle.std.specs.Prelude.{ℕ, ◌+◌, ◌-◌, List, [], ◌∷◌, length, map}
use Rattle.std.specs.Prelude.{if◌then◌else◌, Option, Some, None, is_none, slice_index_or}
use Rattle.std.specs.List.{filter, range_with_len}
use Rattle.std.specs.Str.{bytes_eq}
use Rattle.simulate.specs.Counts.{choices_or_none}
use Rattle.ruleset.specs.Rules.{AppRule, app_in}

-- apps of a ruleset, in order, and the buckets' choices for each
pub record Simulation : Type 0 where
  pub apps : List AppRule
  pub chosen : List (List ℕ)

-- the versions of an app's releases, at most 64, in order
abbrev pub versions_of : AppRule → List (List ℕ)
versions_of app = map (λ release. release.version) app.releases

-- the versions of an app, or none if there is no app
abbrev pub versions_or_none : Option AppRule → List (List ℕ)
versions_or_none (Some app) = versions_of app
versions_or_none None = []

-- every choice among these releases, from 0 on
abbrev pub choices_among : List (List ℕ) → List ℕ
choices_among versions = range_with_len 0 (length versions + 1)

-- the version at a place, from 0; past the last one an empty text
abbrev pub version_in : List (List ℕ) → (place : ℕ) → List ℕ
version_in versions place = slice_index_or versions place []

-- the version of the release that a choice, from 1, names
abbrev pub version_at : List (List ℕ) → (choice : ℕ) → List ℕ
version_at versions choice = version_in versions (choice - 1)

-- ---- an app by its appid

-- the releases of an app, by their versions, and a choice for each bucket
pub record Offer : Type 0 where
  pub versions : List (List ℕ)
  pub choices : List ℕ

-- an app's versions, if there is an app, with these choices
abbrev pub offered : Option AppRule → (choices : List ℕ) → Offer
offered app choices = record { versions = versions_or_none app; choices = choices }

-- for an app that a ruleset doesn't have: no release for any bucket
unfoldable pub no_offer : Offer
no_offer = offered None (choices_or_none None)

-- the offer of the first app with an appid, among apps and their choices, pair by pair
abbrev pub offer_in : List AppRule → (chosen : List (List ℕ)) → (appid : List ℕ) → Offer
offer_in [] chosen appid = no_offer
offer_in (app ∷ apps) [] appid = no_offer
offer_in (app ∷ apps) (choices ∷ chosen) appid =
    if bytes_eq app.appid appid then offered (Some app) choices
    else offer_in apps chosen appid

-- the offer of a simulation's app
abbrev pub offer_of : Simulation → (appid : List ℕ) → Offer
offer_of simulation appid = offer_in simulation.apps simulation.chosen appid

-- the apps that only the current ruleset has, in its order
abbrev pub apps_gone : (next now : List AppRule) → List AppRule
apps_gone next now = filter (λ app. is_none (app_in next app.appid)) now
