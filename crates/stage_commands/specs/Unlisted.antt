-- Halts of apps that a manifest doesn't list, as the files of some of its apps weren't read.
use Rattle.std.specs.Prelude.{◌≡◌, ◌≢◌, ◌⊎◌, ◌&&◌, ℕ, List, All, Option, Some, Bool, true, false}
use Rattle.std.specs.Prelude.{is_some, not}
use Rattle.load.specs.declared.opened.CollectedManifest.{CollectedManifest}
use Rattle.load.specs.declared.sources.AppSources.{AppSources}
use Rattle.stage_records.specs.Steps.{StagingStep}
use Rattle.stage_records.specs.declared.step.StepAction.{StepAction}
use Rattle.stage_records.specs.declared.step.StepAction.TheVariants.{Halt, HaltRelease}
use Rattle.stage_rules.specs.InForce.{is_named, surely_offers}
use Rattle.stage_rules.specs.Lifting.{HasAppOf, action_in_force}
use Rattle.stage_servers.specs.Apps.{app_named}

-- the halt of an action may be in force under the current manifest, as that doesn't surely offer
-- the app, or it is of a release; and the next one doesn't list its app
abbrev pub is_unlisted_halt : (current next : List AppSources) → Option StepAction → Bool
is_unlisted_halt current next (Some (Halt appid)) =
    not (surely_offers current appid) && not (is_some (app_named next appid))
is_unlisted_halt current next (Some (HaltRelease appid version)) =
    not (is_some (app_named next appid))
is_unlisted_halt current next other = false

-- the next manifest lists the app of a step's halt, or its app is among these
abbrev pub IsListedOrNamed : (current next : List AppSources) → (named : List (List ℕ))
    → StagingStep → Type 0
IsListedOrNamed current next named step =
    (is_unlisted_halt current next (action_in_force step) ≡ false) ⊎ HasAppOf named step.action

-- if some apps of the next manifest weren't read, it lists the app of each halt that may be in
-- force
abbrev pub ListsHalted : List StagingStep → List AppSources → (next : CollectedManifest) → Type 0
ListsHalted steps current next = (next.sources.unread ≢ 0)
    → All (λ step. is_unlisted_halt current next.sources.apps.items (action_in_force step) ≡ false)
    steps

-- or else that app is among these
abbrev pub AreUnlistedNamed : List StagingStep → List AppSources → (next : CollectedManifest)
    → (named : List (List ℕ)) → Type 0
AreUnlistedNamed steps current next named = (next.sources.unread ≢ 0)
    → All (IsListedOrNamed current next.sources.apps.items named) steps

-- no fewer apps are named, and that of a step's halt, unless it is listed
pub record NamesUnlisted (step : StagingStep) (current next : List AppSources)
    (old new : List (List ℕ)) : Type 0 where
  pub kept : (appid : List ℕ) → is_named old appid ≡ true → is_named new appid ≡ true
  pub named : IsListedOrNamed current next new step
