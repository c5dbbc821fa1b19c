-- Which halts are in force, and when another manifest lifts that of an app.
use Rattle.std.specs.Prelude.{◌≡◌, ℕ, List, [], ◌∷◌, filter_map, Option, Some, None, is_some}
use Rattle.std.specs.Prelude.{Bool, true, false, not, ◌&&◌, ◌||◌, if◌then◌else◌}
use Rattle.std.specs.List.{list_any}
use Rattle.std.specs.Option.{option_or}
use Rattle.std.specs.Str.{bytes_eq}
use Rattle.load.specs.Kept.{whole_file}
use Rattle.load.specs.declared.sources.AppSources.{AppSources}
use Rattle.stage_records.specs.Steps.{StagingStep}
use Rattle.stage_records.specs.declared.step.StepAction.{StepAction}
use Rattle.stage_records.specs.declared.step.StepAction.TheVariants.{Halt, HaltRelease}
use Rattle.stage_rules.specs.Halts.{halting_file}

-- ---- lists of apps

-- an app is among these
abbrev pub is_named : List (List ℕ) → (appid : List ℕ) → Bool
is_named appids appid = list_any (λ one. bytes_eq one appid) appids

-- one more app is among these
abbrev pub HasOneMore : (appid : List ℕ) → (old new : List (List ℕ)) → Type 0
HasOneMore appid old new =
    (other : List ℕ) → is_named new other ≡ (is_named old other || bytes_eq appid other)

-- ---- halts in force

-- the app of a halt
abbrev pub app_of_halt : StepAction → Option (List ℕ)
app_of_halt (Halt appid) = Some appid
app_of_halt action = None

-- the app that a step halts, unless it is undone
abbrev pub halted_app : StagingStep → Option (List ℕ)
halted_app step = if step.is_undone then None else app_of_halt step.action

-- the apps of all halts that aren't undone
abbrev pub halted_apps : List StagingStep → List (List ℕ)
halted_apps steps = filter_map halted_app steps

-- the file was read, and has these bytes
abbrev pub has_bytes : Option (List ℕ) → List ℕ → Bool
has_bytes None bytes = false
has_bytes (Some all) bytes = bytes_eq all bytes

-- an app whose file halts it
abbrev pub is_halted : AppSources → Bool
is_halted app = has_bytes (whole_file app.kept) (halting_file app.entry.source)

-- an app whose file was read, and doesn't halt it
abbrev pub is_offered : AppSources → Bool
is_offered app = is_some (whole_file app.kept) && not (is_halted app)

-- a manifest has the app of this appid, and its file may be one that doesn't halt it: one that
-- couldn't be read may be any
abbrev pub may_offer : List AppSources → (appid : List ℕ) → Bool
may_offer apps appid =
    list_any (λ app. bytes_eq app.entry.appid appid && not (is_halted app)) apps

-- a manifest has the app of this appid, and its file surely is one that doesn't halt it
abbrev pub surely_offers : List AppSources → (appid : List ℕ) → Bool
surely_offers apps appid =
    list_any (λ app. bytes_eq app.entry.appid appid && is_offered app) apps

-- a halt of this app is in force under a manifest, unless that surely offers the app
abbrev pub is_in_force : List StagingStep → List AppSources → (appid : List ℕ) → Bool
is_in_force steps apps appid =
    is_named (halted_apps steps) appid && not (surely_offers apps appid)

-- the next manifest may offer an app that the current one doesn't surely offer
abbrev pub lifts : (current next : List AppSources) → (appid : List ℕ) → Bool
lifts current next appid = not (surely_offers current appid) && may_offer next appid

-- ---- the last halt

-- the app that an action halts, or of which it halts a release
abbrev pub app_of_any_halt : StepAction → Option (List ℕ)
app_of_any_halt (Halt appid) = Some appid
app_of_any_halt (HaltRelease appid version) = Some appid
app_of_any_halt action = None

-- a step halts this app or a release, and isn't undone
abbrev pub is_halt_of : StagingStep → (appid : List ℕ) → Bool
is_halt_of step appid = not step.is_undone && has_bytes (app_of_any_halt step.action) appid

-- the last step that does, of the later ones or else this one
abbrev pub last_halt : List StagingStep → (appid : List ℕ) → Option StagingStep
last_halt [] appid = None
last_halt (step ∷ steps) appid = option_or (last_halt steps appid)
    (if is_halt_of step appid then Some step else None)

-- this action halts a release
abbrev pub is_of_release : StepAction → Bool
is_of_release (HaltRelease appid version) = true
is_of_release action = false

-- a step halts a release
abbrev pub halts_release : Option StagingStep → Bool
halts_release None = false
halts_release (Some step) = is_of_release step.action

-- the last halt of an app is that of a release
abbrev pub is_release_halted : List StagingStep → (appid : List ℕ) → Bool
is_release_halted steps appid = halts_release (last_halt steps appid)

-- an app's halt is in force, or its last one is that of a release
abbrev pub is_resumable : List StagingStep → List AppSources → (appid : List ℕ) → Bool
is_resumable steps apps appid = is_in_force steps apps appid || is_release_halted steps appid
