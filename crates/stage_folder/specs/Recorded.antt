-- The steps that the records of a folder spell.
use Rattle.std.specs.Prelude.{◌≡◌, ◌⊎◌, ℕ, ◌==◌, List, filter, filter_map, if◌then◌else◌}
use Rattle.std.specs.Prelude.{Option, Some, None, IfSome, is_none, option_and_then}
use Rattle.std.specs.Prelude.{Bool}
use Rattle.std.specs.List.Sorted.{IsStrictlyIncreasing}
use Rattle.stage_records.specs.FileStates.{is_same_file}
use Rattle.stage_records.specs.Records.{step_in}
use Rattle.stage_records.specs.Steps.{StagingStep}
use Rattle.stage_folder.specs.Folders.{GivesNumbers, KnownRecords, Records, record_known}
use Rattle.stage_folder.specs.declared.folder_fault.RecordFault.{RecordFault}
use Rattle.stage_folder.specs.declared.folder_fault.RecordFault.TheVariants as fault
use Rattle.stage_folder.specs.declared.records.RecordedSteps.{RecordedSteps}

-- a step, if it has this number
abbrev pub if_numbered : ℕ → StagingStep → Option StagingStep
if_numbered number step = if step.number == number then Some step else None

-- the step of this number, if its record spells it
abbrev pub step_at : Records → (number : ℕ) → Option StagingStep
step_at records number =
    option_and_then (if_numbered number) (option_and_then step_in (records number))

-- so it is in a known folder
abbrev pub IsStepAt : KnownRecords → (number : ℕ) → Option StagingStep → Type 0
IsStepAt known number step = IfSome known (λ records. step ≡ step_at records number)

-- of the records with these numbers, the steps that they spell, and the numbers of the others
abbrev pub AreRead : KnownRecords → (numbers : List ℕ) → RecordedSteps → Type 0
AreRead known numbers read = IfSome known (λ records.
    (read.steps.items ≡ filter_map (step_at records) numbers)
    × (read.unread.items ≡ filter (λ n. is_none (step_at records n)) numbers))

-- each record of a folder is a step's or counts as unread, once, in the order of their numbers
pub record AreRecorded (known : KnownRecords) (recorded : RecordedSteps) : Type 0 where
  pub numbers : List ℕ
  pub all : GivesNumbers known numbers
  pub rising : IsStrictlyIncreasing numbers
  pub read : AreRead known numbers recorded

-- a step's record was made or replaced, and spells the step
pub record IsRecorded (step : StagingStep) (old new : KnownRecords) : Type 0 where
  pub bytes : List ℕ
  pub spelt : step_in bytes ≡ Some step
  pub put : new ≡ record_known step.number bytes old

-- whether a record has these bytes
abbrev pub HasRecord : KnownRecords → (number : ℕ) → (bytes : List ℕ) → (has : Bool) → Type 0
HasRecord known number bytes has =
    IfSome known (λ records. has ≡ is_same_file (records number) (Some bytes))

-- the records are as before, or else the step is recorded
abbrev pub MayBeRecorded : StagingStep → (old new : KnownRecords) → Type 0
MayBeRecorded step old new = (new ≡ old) ⊎ IsRecorded step old new

-- the records after a write that failed
abbrev pub AreRecordsAfter : RecordFault → StagingStep → (old new : KnownRecords) → Type 0
AreRecordsAfter (fault.NotMade why) step old new = new ≡ old
AreRecordsAfter (fault.NotKept why) step old new = IsRecorded step old new
AreRecordsAfter (fault.Unknown why) step old new = MayBeRecorded step old new
