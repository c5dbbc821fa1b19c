-- When the records and the files of a folder are as the steps left them.
use Rattle.std.specs.Prelude.{◌≡◌, All, Bool, true, false, List, [], IfSome}
use Rattle.stage_folder.specs.Folders.{KnownFolder, KnownRecords}
use Rattle.stage_folder.specs.Recorded.{AreRecorded}
use Rattle.stage_folder.specs.declared.records.RecordedSteps.{RecordedSteps}
use Rattle.stage_records.specs.FileStates.{state_of}
use Rattle.stage_records.specs.Steps.{ReplacedFile, StagingStep, last_step}
use Rattle.stage_records.specs.declared.action.StageAction.{StageAction}
use Rattle.stage_records.specs.declared.action.StageAction.TheVariants as action
use Rattle.stage_records.specs.declared.file_state.FileState.TheVariants.{After}

-- all records are read, and each is a step's
pub record AreAllRead (records : KnownRecords) (recorded : RecordedSteps) : Type 0 where
  pub are : AreRecorded records recorded
  pub all_read : recorded.unread.items ≡ []

-- each record is a step's
abbrev pub HasOnlySteps : KnownRecords → Type 0
HasOnlySteps records = (recorded : RecordedSteps) × AreAllRead records recorded

-- a file is as a step left it
abbrev pub IsAsLeft : KnownFolder → ReplacedFile → Type 0
IsAsLeft folder file = IfSome folder (λ known. state_of file (known file.name) ≡ After)

-- each file of the last step that isn't undone is as it left it
abbrev pub AreAsLeft : KnownFolder → List StagingStep → Type 0
AreAsLeft folder steps = IfSome (last_step steps) (λ step. All (IsAsLeft folder) step.files)

-- each record is a step's, and each file of the last one that isn't undone is as it left it
pub record IsWhole (records : KnownRecords) (folder : KnownFolder) : Type 0 where
  pub recorded : RecordedSteps
  pub are : AreAllRead records recorded
  pub as_left : AreAsLeft folder recorded.steps.items

-- a status, or a history
abbrev pub only_looks : StageAction → Bool
only_looks action.Status = true
only_looks (action.History appid) = true
only_looks other = false

-- what holds if a status or a history is done
abbrev pub IsSeenWhole : StageAction → KnownRecords → KnownFolder → Type 0
IsSeenWhole action.Status records folder = IsWhole records folder
IsSeenWhole (action.History appid) records folder = HasOnlySteps records
IsSeenWhole other records folder = Unit {0}
