-- A step that is recorded and performed, and what a stop leaves.
use Rattle.std.specs.Prelude.{◌≡◌, ◌≢◌, ◌⊎◌, ℕ, List, [], All, true, false, Some, IfSome}
use Rattle.std.specs.Prelude.{option_copied, option_map}
use Rattle.stage_folder.specs.Folders.{FollowsRecord, IsFree, KnownFolder, KnownRecords}
use Rattle.stage_folder.specs.Recorded.{IsRecorded, MayBeRecorded}
use Rattle.stage_folder.specs.Steps.{IsFoundBy, IsPartlyDone, IsPartlyUndone, done}
use Rattle.stage_folder.specs.Steps.{has_distinct_names, is_change, undone}
use Rattle.stage_folder.specs.declared.folder_fault.RecordFault.{RecordFault}
use Rattle.stage_folder.specs.declared.folder_fault.RecordFault.TheVariants as fault
use Rattle.stage_folder.specs.declared.records.RecordedSteps.{RecordedSteps}
use Rattle.stage_records.specs.Steps.{ReplacedFile, StagingStep, last_step}
use Rattle.stage_records.specs.declared.step.StepAction.{StepAction}
use Rattle.stage_servers.specs.Stops.{MayBeUnchanged}
use Rattle.stage_servers.specs.Whole.{AreAllRead}
use Rattle.stage_servers.specs.declared.options.StageOptions.{StageOptions}
use Rattle.stage_servers.specs.declared.outcome.Stop.{Stop}
use Rattle.stage_servers.specs.declared.outcome.Stop.TheVariants as stop

-- nothing has changed
abbrev pub IsUnchanged : (old_records new_records : KnownRecords) → (old new : KnownFolder)
    → Type 0
IsUnchanged old_records new_records old new = (new ≡ old) × (new_records ≡ old_records)

-- the last recorded step that isn't undone
pub record IsLast (records : KnownRecords) (step : StagingStep) : Type 0 where
  pub recorded : RecordedSteps
  pub are : AreAllRead records recorded
  pub last : last_step recorded.steps.items ≡ Some step

-- the number of a new step: no record has it, or a greater one; it is 1, or one more than that of a
-- record
pub record IsNewNumber (records : KnownRecords) (number : ℕ) : Type 0 where
  pub free : IsFree records number
  pub follows : FollowsRecord records (Some number)

-- ---- a step

-- a step that replaces files is recorded, and performed; one that replaces none isn't recorded, and
-- changes no file
pub record Performs (step : StagingStep) (old_records new_records : KnownRecords)
    (old new : KnownFolder) : Type 0 where
  pub recorded : ((step.files ≡ []) × (new_records ≡ old_records))
      ⊎ ((step.files ≢ []) × IsRecorded step old_records new_records)
  pub distinct : has_distinct_names step.files ≡ true
  pub done : new ≡ option_map (done step.files) old

-- a step of this number that does this and replaces these files, by the user and for the reason of
-- the options
pub record Takes (options : StageOptions) (number : ℕ) (action : StepAction)
    (files : List ReplacedFile) (old_records new_records : KnownRecords) (old new : KnownFolder)
    : Type 0 where
  pub step : StagingStep
  pub number_is : step.number ≡ number
  pub action_is : step.action ≡ action
  pub user_is : step.user ≡ option_copied options.user
  pub because_is : step.because ≡ option_copied options.because
  pub files_are : step.files ≡ files
  pub not_undone : step.is_undone ≡ false
  pub performed : Performs step old_records new_records old new

-- its number is new, it has the bytes that each file had before, and it changes the bytes of each
pub record IsTaken (options : StageOptions) (action : StepAction) (files : List ReplacedFile)
    (old_records new_records : KnownRecords) (old new : KnownFolder) : Type 0 where
  pub number : ℕ
  pub is_new : IsNewNumber old_records number
  pub found : IfSome old (IsFoundBy files)
  pub changes : All (λ file. is_change file ≡ true) files
  pub takes : Takes options number action files old_records new_records old new

-- a step as it is recorded once it is undone
abbrev pub as_undone : StagingStep → StagingStep
as_undone step = record {
  number = step.number;
  time = step.time;
  user = step.user;
  because = step.because;
  action = step.action;
  files = step.files;
  is_undone = true;
}

-- ---- a stop while a step is taken

-- a stop doesn't say that nothing has changed
abbrev pub MayChange : Stop → Type 0
MayChange (stop.Refused reason) = ⊥
MayChange other = Unit {0}

-- nothing has changed, and the stop doesn't say that something may have
abbrev pub IsUnchangedBy : Stop → (old_records new_records : KnownRecords)
    → (old new : KnownFolder) → Type 0
IsUnchangedBy stop old_records new_records old new =
    IsUnchanged old_records new_records old new × MayBeUnchanged stop

-- the next step that does this and replaces these files, by the user and for the reason of the
-- options: its number is new, it has the bytes that each file has, it changes the bytes of each,
-- and it isn't undone
pub record IsNext (options : StageOptions) (action : StepAction) (files : List ReplacedFile)
    (records : KnownRecords) (folder : KnownFolder) (step : StagingStep) : Type 0 where
  pub is_new : IsNewNumber records step.number
  pub action_is : step.action ≡ action
  pub user_is : step.user ≡ option_copied options.user
  pub because_is : step.because ≡ option_copied options.because
  pub files_are : step.files ≡ files
  pub found : IfSome folder (IsFoundBy files)
  pub changes : All (λ file. is_change file ≡ true) files
  pub not_undone : step.is_undone ≡ false

-- of a step that replaces files: no file has changed, but the step may be recorded; or it is, and
-- some of its files are replaced, or all
abbrev pub IsLeftTaken : StagingStep → (old_records new_records : KnownRecords)
    → (old new : KnownFolder) → Type 0
IsLeftTaken step old_records new_records old new = (step.files ≢ [])
    × ((MayBeRecorded step old_records new_records × (new ≡ old))
    ⊎ (IsRecorded step old_records new_records × (has_distinct_names step.files ≡ true)
    × IsPartlyDone step.files old new))

-- nothing has changed; or the stop doesn't say so, and the step is left so
abbrev pub LeftByTake : Stop → StagingStep → (old_records new_records : KnownRecords)
    → (old new : KnownFolder) → Type 0
LeftByTake stop step old_records new_records old new =
    IsUnchangedBy stop old_records new_records old new
    ⊎ (MayChange stop × IsLeftTaken step old_records new_records old new)

-- nothing has changed; or the next step that does this and replaces these files is left so
abbrev pub LeftByFiles : StageOptions → StepAction → List ReplacedFile → Stop
    → (old_records new_records : KnownRecords) → (old new : KnownFolder) → Type 0
LeftByFiles options action files stop old_records new_records old new =
    IsUnchangedBy stop old_records new_records old new
    ⊎ ((step : StagingStep) × IsNext options action files old_records old step
    × LeftByTake stop step old_records new_records old new)

-- some files are planned
abbrev pub HasPlan : (IsPlan : List ReplacedFile → Type 0) → Type 0
HasPlan IsPlan = (files : List ReplacedFile) × IsPlan files

-- nothing has changed; or files are planned, and the next step that replaces them is left so
abbrev pub LeftBy : (IsPlan : List ReplacedFile → Type 0) → StageOptions → StepAction → Stop
    → (old_records new_records : KnownRecords) → (old new : KnownFolder) → Type 0
LeftBy IsPlan options action stop old_records new_records old new =
    IsUnchangedBy stop old_records new_records old new
    ⊎ ((files : List ReplacedFile) × IsPlan files
    × LeftByFiles options action files stop old_records new_records old new)

-- ---- a stop while a step is undone

-- some files of a step are restored; or all are, and its record says that it is undone
abbrev pub IsLeftUndone : StagingStep → (old_records new_records : KnownRecords)
    → (old new : KnownFolder) → Type 0
IsLeftUndone step old_records new_records old new =
    ((new_records ≡ old_records) × IsPartlyUndone step.files old new)
    ⊎ (IsRecorded (as_undone step) old_records new_records
    × (new ≡ option_map (undone step.files) old))

-- nothing has changed; or the stop doesn't say so, and the undoing is left so
abbrev pub LeftByUndo : Stop → StagingStep → (old_records new_records : KnownRecords)
    → (old new : KnownFolder) → Type 0
LeftByUndo stop step old_records new_records old new =
    IsUnchangedBy stop old_records new_records old new
    ⊎ (MayChange stop × IsLeftUndone step old_records new_records old new)

-- ---- a record that can't be written

-- unless memory runs out, a stop says that nothing has changed if it is known that the records are
-- as before, and only then
abbrev pub IsTrueAfter : RecordFault → Stop → Type 0
IsTrueAfter (fault.NotMade why) stop = MayBeUnchanged stop
IsTrueAfter other stop = MayChange stop

-- the records after a stop at a step's record: they are as before; or the stop doesn't say so, and
-- they may have it
abbrev pub RecordLeftBy : Stop → StagingStep → (old new : KnownRecords) → Type 0
RecordLeftBy stop step old new =
    ((new ≡ old) × MayBeUnchanged stop) ⊎ (MayChange stop × MayBeRecorded step old new)
