-- What `back` does to the files of a folder, and what it doesn't undo.
use Rattle.std.specs.Prelude.{◌≡◌, ◌⊎◌, ℕ, List, Bool, false, Option, Some, None, IfSome}
use Rattle.std.specs.Prelude.{option_map}
use Rattle.bounded_files.specs.Files.{KnownFiles}
use Rattle.load.specs.declared.opened.CollectedManifest.{CollectedManifest}
use Rattle.stage_folder.specs.Folders.{KnownFolder, KnownRecords}
use Rattle.stage_folder.specs.Recorded.{IsRecorded}
use Rattle.stage_folder.specs.Steps.{edited_place, undone}
use Rattle.stage_records.specs.Steps.{StagingStep}
use Rattle.stage_rules.specs.InForce.{app_of_any_halt}
use Rattle.stage_rules.specs.Lifting.{AreNamed, HasAppOf, LiftsNothing}
use Rattle.stage_commands.specs.Befores.{WasGathered}
use Rattle.stage_commands.specs.Taken.{IsLast, IsUnchangedBy, LeftByUndo, as_undone}
use Rattle.stage_commands.specs.Unlisted.{AreUnlistedNamed, ListsHalted}
use Rattle.stage_servers.specs.Gathered.{IsGathered}
use Rattle.stage_servers.specs.declared.outcome.Stop.{Stop}

-- undoing a step lifts no halt; if a manifest can't be gathered, the step isn't a halt
abbrev pub LiftsNoneByUndoing : List StagingStep → StagingStep
    → (present before : Option CollectedManifest) → Type 0
LiftsNoneByUndoing steps step (Some present) (Some before) =
    LiftsNothing steps present.sources.apps.items before.sources.apps.items
    × ListsHalted steps present.sources.apps.items before
LiftsNoneByUndoing steps step present before = app_of_any_halt step.action ≡ None

-- the apps of the halts that undoing a step lifts are among these; if a manifest can't be gathered,
-- that of the step's own halt is
abbrev pub AreNamedByUndoing : List StagingStep → StagingStep
    → (present before : Option CollectedManifest) → (named : List (List ℕ)) → Type 0
AreNamedByUndoing steps step (Some present) (Some before) named =
    AreNamed steps present.sources.apps.items before.sources.apps.items named
    × AreUnlistedNamed steps present.sources.apps.items before named
AreNamedByUndoing steps step present before named = HasAppOf named step.action

-- undoing a step lifts no halt of these steps, by the manifests in place and before it, as far as
-- that is known
pub record UndoingLiftsNone (known : KnownFiles) (current : List ℕ) (steps : List StagingStep)
    (step : StagingStep) : Type 0 where
  pub present : Option CollectedManifest
  pub gathered : IsGathered known current present
  pub before : Option CollectedManifest
  pub was_gathered : WasGathered known current step.files before
  pub lifts_none : LiftsNoneByUndoing steps step present before

-- no file of a step was edited: each is as the step left it, or as it found it
abbrev pub IsRestorable : KnownFolder → StagingStep → Type 0
IsRestorable files step = IfSome files (λ folder. edited_place step.files folder ≡ None)

-- each file of a step is as it found it, all others are as before, and its record says that it is
-- undone
pub record Undoes (step : StagingStep) (old_records new_records : KnownRecords)
    (old new : KnownFolder) : Type 0 where
  pub restored : new ≡ option_map (undone step.files) old
  pub recorded : IsRecorded (as_undone step) old_records new_records

module _ (known : KnownFiles) (current : List ℕ) (anyway : Bool) where
  -- what is to be undone: the last step, of which no file was edited since; without `--anyway` one
  -- that lifts no halt, as far as that is known
  pub record PlansBack (records : KnownRecords) (files : KnownFolder) : Type 0 where
    pub step : StagingStep
    pub last : IsLast records step
    pub lifts_none : anyway ≡ false
        → UndoingLiftsNone known current last.recorded.steps.items step
    pub unedited : IsRestorable files step

  -- it is undone
  pub record HasGoneBack (old_records new_records : KnownRecords) (old new : KnownFolder)
      : Type 0 where
    pub plan : PlansBack old_records old
    pub undoes : Undoes plan.step old_records new_records old new

  -- nothing has changed; or the step that was to be undone is left so
  abbrev pub LeftByBack : Stop → (old_records new_records : KnownRecords)
      → (old new : KnownFolder) → Type 0
  LeftByBack stop old_records new_records old new =
      IsUnchangedBy stop old_records new_records old new
      ⊎ ((plan : PlansBack old_records old)
      × LeftByUndo stop plan.step old_records new_records old new)
