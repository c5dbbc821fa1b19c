-- Which halts another manifest lifts: those of apps, and those of releases.
use Rattle.std.specs.Prelude.{◌≡◌, ◌⊎◌, ℕ, List, All, find, Ok, Option, Some, None, IfSome}
use Rattle.std.specs.Prelude.{Bool, true, false, if◌then◌else◌}
use Rattle.std.specs.List.{list_any}
use Rattle.std.specs.Str.{bytes_eq}
use Rattle.load.specs.Kept.{whole_file}
use Rattle.load.specs.declared.sources.AppSources.{AppSources}
use Rattle.manifest.specs.declared.app.ProgramSource.TheVariants.{Program, Rule}
use Rattle.rule_lang.specs.Verdicts.{IsVerdict}
use Rattle.rule_lang.specs.declared.rule.Statement.{Statement}
use Rattle.stage_records.specs.Steps.{StagingStep}
use Rattle.stage_records.specs.declared.step.StepAction.{StepAction}
use Rattle.stage_records.specs.declared.step.StepAction.TheVariants.{Halt, HaltRelease}
use Rattle.stage_rules.specs.InForce.{app_of_any_halt, is_halted, is_named, is_offered, lifts}
use Rattle.stage_rules.specs.ReleaseHalts.{offers}

-- an app's file surely offers a version, or surely doesn't: one that halts the app doesn't, any
-- other program counts as an offer, and a rule is read
pub data IsKnown (app : AppSources) (version : List ℕ) : (offered : Bool) → Type 0 where
  halted : is_halted app ≡ true → IsKnown app version false
  program : (file : List ℕ) → app.entry.source ≡ Program file → is_offered app ≡ true
      → IsKnown app version true
  rule : (file text : List ℕ) (statements : List Statement) → app.entry.source ≡ Rule file
      → whole_file app.kept ≡ Some text → IsVerdict app.shape text (Ok statements)
      → IsKnown app version (list_any (offers app.entry.releases version) statements)

-- the same of an app that a manifest may have; without the app it offers nothing
abbrev pub IsKnownOf : Option AppSources → (version : List ℕ) → (offered : Bool) → Type 0
IsKnownOf None version offered = offered ≡ false
IsKnownOf (Some app) version offered = IsKnown app version offered

-- the same of the app of this appid
abbrev pub IsKnownAmong : List AppSources → (appid version : List ℕ) → (offered : Bool) → Type 0
IsKnownAmong apps appid version offered =
    IsKnownOf (find (λ app. bytes_eq app.entry.appid appid) apps) version offered

-- the current manifest surely offers a version, or the next one surely doesn't
abbrev pub OffersNoMore : (current next : List AppSources) → (appid version : List ℕ) → Type 0
OffersNoMore current next appid version =
    IsKnownAmong current appid version true ⊎ IsKnownAmong next appid version false

-- ---- the halts of steps

-- the action of a step, unless it is undone
abbrev pub action_in_force : StagingStep → Option StepAction
action_in_force step = if step.is_undone then None else Some step.action

-- the next manifest doesn't lift the halt of this action
abbrev pub StaysHalted : (current next : List AppSources) → Option StepAction → Type 0
StaysHalted current next (Some (Halt appid)) = lifts current next appid ≡ false
StaysHalted current next (Some (HaltRelease appid version)) =
    OffersNoMore current next appid version
StaysHalted current next other = Unit {0}

-- no halt of these steps is lifted
abbrev pub LiftsNothing : List StagingStep → (current next : List AppSources) → Type 0
LiftsNothing steps current next =
    All (λ step. StaysHalted current next (action_in_force step)) steps

-- ---- the apps of those that are lifted

-- the app of an action's halt is among these
abbrev pub HasAppOf : (named : List (List ℕ)) → StepAction → Type 0
HasAppOf named action = IfSome (app_of_any_halt action) (λ appid. is_named named appid ≡ true)

-- a step's halt isn't lifted, or its app is among these
abbrev pub IsLiftNamed : (current next : List AppSources) → (named : List (List ℕ)) → StagingStep
    → Type 0
IsLiftNamed current next named step =
    StaysHalted current next (action_in_force step) ⊎ HasAppOf named step.action

-- each app of which one of these steps' halts may be lifted is among these
abbrev pub AreNamed : List StagingStep → (current next : List AppSources)
    → (named : List (List ℕ)) → Type 0
AreNamed steps current next named = All (IsLiftNamed current next named) steps

-- the same of one more step, and of no fewer apps
pub record NamesMore (step : StagingStep) (current next : List AppSources)
    (old new : List (List ℕ)) : Type 0 where
  pub kept : (appid : List ℕ) → is_named old appid ≡ true → is_named new appid ≡ true
  pub named : IsLiftNamed current next new step
