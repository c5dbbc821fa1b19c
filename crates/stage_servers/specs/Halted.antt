-- The halted apps that an action may have the servers offer again.
use Rattle.std.specs.Prelude.{◌≡◌, ◌||◌, ℕ, List, [], ◌∷◌, Bool, true, false, Option, Some, None}
use Rattle.bounded_files.specs.Files.{KnownFiles}
use Rattle.load.specs.declared.opened.CollectedManifest.{CollectedManifest}
use Rattle.load.specs.declared.sources.AppSources.{AppSources}
use Rattle.stage_folder.specs.Folders.{KnownRecords}
use Rattle.stage_folder.specs.declared.records.RecordedSteps.{RecordedSteps}
use Rattle.stage_records.specs.Steps.{StagingStep}
use Rattle.stage_records.specs.declared.action.StageAction.{StageAction}
use Rattle.stage_records.specs.declared.action.StageAction.TheVariants as action
use Rattle.stage_rules.specs.InForce.{is_in_force, is_named}
use Rattle.stage_servers.specs.Gathered.{IsGathered}
use Rattle.stage_servers.specs.Whole.{AreAllRead}

-- the servers may halt an app: they list it, or nobody knows which they halt
abbrev pub may_halt : (listed : Option (List (List ℕ))) → (appid : List ℕ) → Bool
may_halt None appid = true
may_halt (Some listed) appid = is_named listed appid

-- an app is among these exactly if its halt is in force: a step halted it and isn't undone, and
-- this manifest doesn't surely offer it
abbrev pub AreInForce : List StagingStep → (current : List AppSources)
    → (named : List (List ℕ)) → Type 0
AreInForce steps current named =
    (appid : List ℕ) → is_named named appid ≡ is_in_force steps current appid

-- under the manifest in place; no app if that can't be gathered
abbrev pub AreInForceUnder : List StagingStep → Option CollectedManifest
    → (named : List (List ℕ)) → Type 0
AreInForceUnder steps (Some manifest) named = AreInForce steps manifest.sources.apps.items named
AreInForceUnder steps None named = named ≡ []

-- by the recorded steps, of which each record is read, and the manifest in place
pub record AreHaltedIn (known : KnownFiles) (current : List ℕ) (records : KnownRecords)
    (named : List (List ℕ)) : Type 0 where
  pub recorded : RecordedSteps
  pub are_read : AreAllRead records recorded
  pub present : Option CollectedManifest
  pub is_present : IsGathered known current present
  pub in_force : AreInForceUnder recorded.steps.items present named

-- the same with `--anyway`, and no app without it
abbrev pub AreHaltedIf : (anyway : Bool) → KnownFiles → (current : List ℕ) → KnownRecords
    → (named : List (List ℕ)) → Type 0
AreHaltedIf true known current records named = AreHaltedIn known current records named
AreHaltedIf false known current records named = named ≡ []

-- the apps that an action may have the servers offer again: for a put and for `back` those whose
-- halts are in force, but none without `--anyway`; for a resume its own, and else none by this list
abbrev pub MayEndHalts : StageAction → (anyway : Bool) → KnownFiles → (current : List ℕ)
    → KnownRecords → (named : List (List ℕ)) → Type 0
MayEndHalts (action.Put manifest) anyway known current records named =
    AreHaltedIf anyway known current records named
MayEndHalts action.Back anyway known current records named =
    AreHaltedIf anyway known current records named
MayEndHalts (action.Resume appid buckets) anyway known current records named =
    named ≡ appid.now ∷ []
MayEndHalts other anyway known current records named = named ≡ []

-- ---- one step after the other

-- the app of this step's halt, if that is in force
abbrev pub HasHaltOf : StagingStep → (current : List AppSources) → (old new : List (List ℕ))
    → Type 0
HasHaltOf step current old new = (appid : List ℕ)
    → is_named new appid ≡ (is_named old appid || is_in_force (step ∷ []) current appid)
