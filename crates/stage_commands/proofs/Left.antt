-- What a stop leaves, from what each part leaves.
use Rattle.std.proofs.Common.{◌≡◌, ◌≢◌, ◌∙◌, ap, refl, subst, sym, ℕ, List, [], true}
use Rattle.std.proofs.Common.{false, zero, ◌⊎◌, inl, inr}
use Rattle.std.specs.Prelude.{All, Some, None, Result, Ok, Err, IfErr, IfOk, OnOk, IfSome}
use Rattle.std.specs.Prelude.{option_copied, option_map}
use Rattle.stage_records.specs.Steps.{ReplacedFile, StagingStep}
use Rattle.stage_records.specs.declared.step.StepAction.{StepAction}
use Rattle.stage_folder.specs.Folders.{FollowsRecord, IsFree, KnownFolder, KnownRecords}
use Rattle.stage_folder.specs.Recorded.{AreRecordsAfter, IsRecorded, MayBeRecorded}
use Rattle.stage_folder.specs.Steps.{IsFoundBy, IsPartlyDone, IsPartlyUndone, done}
use Rattle.stage_folder.specs.Steps.{has_distinct_names, is_change, undone}
use Rattle.stage_folder.specs.declared.folder_fault.RecordFault.{RecordFault}
use Rattle.stage_folder.specs.declared.folder_fault.RecordFault.TheVariants as fault
use Rattle.stage_commands.specs.Backs.{Undoes}
use Rattle.stage_commands.specs.Taken.{IsLeftUndone, IsNewNumber, IsNext, IsUnchangedBy}
use Rattle.stage_commands.specs.Taken.{IsTrueAfter, LeftBy, LeftByFiles, LeftByTake, LeftByUndo}
use Rattle.stage_commands.specs.Taken.{MayChange, Performs, RecordLeftBy, Takes, as_undone}
use Rattle.stage_servers.specs.Stops.{MayBeUnchanged}
use Rattle.stage_servers.specs.declared.options.StageOptions.{StageOptions}
use Rattle.stage_servers.specs.declared.outcome.Stop.{Stop}

same : (known : KnownFolder) → known ≡ option_map (λ folder. folder) known
same None = refl
same (Some folder) = refl

-- ---- before a file is changed

pub unchanged : (A : Type 0) (why : Stop) (old_records new_records : KnownRecords)
    (old new : KnownFolder) → MayBeUnchanged why → new_records ≡ old_records → new ≡ old
    → IsUnchangedBy why old_records new_records old new ⊎ A
unchanged A why old_records new_records old new says same e = inl ((e, same), says)

-- ---- a step

pub new_number : (records : KnownRecords) (number : ℕ) → IsFree records number
    → FollowsRecord records (Some number) → IsNewNumber records number
new_number records number free follows = record { free = free; follows = follows }

pub next_step : (options : StageOptions) (did : StepAction) (records : KnownRecords)
    (folder : KnownFolder) (number : ℕ) (files : List ReplacedFile) (step : StagingStep)
    → IsNewNumber records number → IfSome folder (IsFoundBy files)
    → All (λ file. is_change file ≡ true) files → step.number ≡ number
    → step.action ≡ did → step.user ≡ option_copied options.user
    → step.because ≡ option_copied options.because → step.files ≡ files
    → step.is_undone ≡ false → IsNext options did files records folder step
next_step options did records folder number files step fresh found changes numbered acts by why has
    not_yet = record {
      is_new = subst (IsNewNumber records) (sym numbered) fresh;
      action_is = acts;
      user_is = by;
      because_is = why;
      files_are = has;
      found = found;
      changes = changes;
      not_undone = not_yet;
    }

pub left_taken : (options : StageOptions) (did : StepAction) (files : List ReplacedFile)
    (why : Stop) (step : StagingStep) (old_records new_records : KnownRecords)
    (old new : KnownFolder) → IsNext options did files old_records old step
    → LeftByTake why step old_records new_records old new
    → LeftByFiles options did files why old_records new_records old new
left_taken options did files why step old_records new_records old new next left =
    inr (step, next, left)

-- what a stop leaves of the planned files
pub left_for : (IsPlan : List ReplacedFile → Type 0) (why : Stop) (options : StageOptions)
    (did wanted : StepAction) (files : List ReplacedFile) (old_records new_records : KnownRecords)
    (old new : KnownFolder) → did ≡ wanted → IsPlan files
    → LeftByFiles options did files why old_records new_records old new
    → LeftBy IsPlan options wanted why old_records new_records old new
left_for IsPlan why options did wanted files old_records new_records old new is plan left = inr (
  files,
  plan,
  subst (λ a. LeftByFiles options a files why old_records new_records old new) is left,
)

pub left_as : (IsPlan : List ReplacedFile → Type 0) (r : Result (Unit {0}) Stop)
    (options : StageOptions) (did wanted : StepAction) (files : List ReplacedFile)
    (old_records new_records : KnownRecords) (old new : KnownFolder) → did ≡ wanted → IsPlan files
    → IfErr r (λ why. LeftByFiles options did files why old_records new_records old new)
    → IfErr r (λ why. LeftBy IsPlan options wanted why old_records new_records old new)
left_as IsPlan (Ok done) options did wanted files old_records new_records old new is plan left = tt
left_as IsPlan (Err why) options did wanted files old_records new_records old new is plan left =
    left_for IsPlan why options did wanted files old_records new_records old new is plan left

pub files_left_as : (r : Result (Unit {0}) Stop) (options : StageOptions) (did : StepAction)
    (files wanted : List ReplacedFile) (old_records new_records : KnownRecords)
    (old new : KnownFolder) → files ≡ wanted
    → IfErr r (λ why. LeftByFiles options did files why old_records new_records old new)
    → IfErr r (λ why. LeftByFiles options did wanted why old_records new_records old new)
files_left_as r options did files wanted old_records new_records old new is left =
    subst (λ fs. IfErr r (λ why. LeftByFiles options did fs why old_records new_records old new)) is
    left

pub changing_files : (files wanted : List ReplacedFile) → files ≡ wanted
    → All (λ file. is_change file ≡ true) wanted → All (λ file. is_change file ≡ true) files
changing_files files wanted same changes =
    subst (All (λ file. is_change file ≡ true)) (sym same) changes

pub found_files : (folder : KnownFolder) (files wanted : List ReplacedFile) → files ≡ wanted
    → IfSome folder (IsFoundBy wanted) → IfSome folder (IsFoundBy files)
found_files folder files wanted same found =
    subst (λ fs. IfSome folder (IsFoundBy fs)) (sym same) found

pub not_recorded : (why : Stop) (step : StagingStep) (old_records new_records : KnownRecords)
    (old new : KnownFolder) → step.files ≢ [] → RecordLeftBy why step old_records new_records
    → new ≡ old → LeftByTake why step old_records new_records old new
not_recorded why step old_records new_records old new some (inl (same, says)) e =
    inl ((e, same), says)
not_recorded why step old_records new_records old new some (inr (may, left)) e =
    inr (may, (some, inl (left, e)))

pub may_be : (why : RecordFault) (step : StagingStep) (old new : KnownRecords)
    → AreRecordsAfter why step old new → MayBeRecorded step old new
may_be (fault.NotMade of) step old new left = inl left
may_be (fault.NotKept of) step old new left = inr left
may_be (fault.Unknown of) step old new left = left

pub record_left : (said : Stop) (why : RecordFault) (step : StagingStep) (old new : KnownRecords)
    → IsTrueAfter why said → AreRecordsAfter why step old new → RecordLeftBy said step old new
record_left said (fault.NotMade of) step old new is left = inl (left, is)
record_left said (fault.NotKept of) step old new is left = inr (is, inr left)
record_left said (fault.Unknown of) step old new is left = inr (is, left)

module _ (step : StagingStep) (old_records mid new_records : KnownRecords)
    (old between new : KnownFolder) (is : IsRecorded step old_records mid)
    (same : new_records ≡ mid) (distinct : has_distinct_names step.files ≡ true)
    (e : between ≡ old) (part : IsPartlyDone step.files between new) where
  pub partly_done_by : (why : Stop) → step.files ≢ [] → MayChange why
      → LeftByTake why step old_records new_records old new
  partly_done_by why some may = inr (
    may,
    (
      some,
      inr (
        subst (IsRecorded step old_records) (sym same) is,
        distinct,
        subst (λ known. IsPartlyDone step.files known new) e part,
      ),
    ),
  )

pub performs : (step : StagingStep) (old_records mid new_records : KnownRecords)
    (old between new : KnownFolder) → step.files ≢ []
    → IsRecorded step old_records mid → new_records ≡ mid
    → has_distinct_names step.files ≡ true → between ≡ old
    → new ≡ option_map (done step.files) between
    → Performs step old_records new_records old new
performs step old_records mid new_records old between new some is same distinct e all = record {
  recorded = inr (some, subst (IsRecorded step old_records) (sym same) is);
  distinct = distinct;
  done = all ∙ ap (option_map (done step.files)) e;
}

pub performs_none : (step : StagingStep) (records : KnownRecords) (folder : KnownFolder)
    → step.files ≡ [] → Performs step records records folder folder
performs_none step records folder none = record {
  recorded = inl (none, refl);
  distinct = ap has_distinct_names none;
  done = same folder
      ∙ ap (λ (files : List ReplacedFile). option_map (done files) folder) (sym none);
}

pub takes_by : (options : StageOptions) (number : ℕ) (did : StepAction)
    (files : List ReplacedFile) (step : StagingStep)
    (old_records new_records : KnownRecords) (old new : KnownFolder)
    → Performs step old_records new_records old new → step.number ≡ number → step.action ≡ did
    → step.user ≡ option_copied options.user → step.because ≡ option_copied options.because
    → step.files ≡ files → step.is_undone ≡ false
    → Takes options number did files old_records new_records old new
takes_by options number did files step old_records new_records old new is numbered acts by why of
    not_yet =
    record {
      step = step;
      number_is = numbered;
      action_is = acts;
      user_is = by;
      because_is = why;
      files_are = of;
      not_undone = not_yet;
      performed = is;
    }

pub takes_files : (options : StageOptions) (number : ℕ) (did : StepAction)
    (files wanted : List ReplacedFile) (old_records new_records : KnownRecords)
    (old new : KnownFolder)
    → Takes options number did files old_records new_records old new → files ≡ wanted
    → Takes options number did wanted old_records new_records old new
takes_files options number did files wanted old_records new_records old new takes same =
    subst (λ fs. Takes options number did fs old_records new_records old new) same takes

-- ---- undoing

undone_by : (why : Stop) (step : StagingStep) (old_records new_records : KnownRecords)
    (old new : KnownFolder) → MayChange why → IsLeftUndone step old_records new_records old new
    → LeftByUndo why step old_records new_records old new
undone_by why step old_records new_records old new may left = inr (may, left)

pub not_restored : (why : Stop) (step : StagingStep) (old_records new_records : KnownRecords)
    (old new : KnownFolder) → MayChange why → new_records ≡ old_records
    → IsPartlyUndone step.files old new → LeftByUndo why step old_records new_records old new
not_restored why step old_records new_records old new may same part =
    undone_by why step old_records new_records old new may (inl (same, part))

all_restored : (step : StagingStep) (old_records new_records : KnownRecords)
    (old new : KnownFolder) → new ≡ option_map (undone step.files) old
    → MayBeRecorded (as_undone step) old_records new_records
    → IsLeftUndone step old_records new_records old new
all_restored step old_records new_records old new all (inl same) = inl (same, (zero, all))
all_restored step old_records new_records old new all (inr is) = inr (is, all)

pub restored_by : (why : Stop) (step : StagingStep)
    (old_records mid_records new_records : KnownRecords) (old mid new : KnownFolder)
    → MayChange why → mid ≡ option_map (undone step.files) old
    → mid_records ≡ old_records → MayBeRecorded (as_undone step) mid_records new_records
    → new ≡ mid → LeftByUndo why step old_records new_records old new
restored_by why step old_records mid_records new_records old mid new may all same noted e =
    undone_by why step old_records new_records old new may
    (all_restored step old_records new_records old new (e ∙ all)
    (subst (λ r. MayBeRecorded (as_undone step) r new_records) same noted))

pub undoes : (step : StagingStep) (old_records mid_records new_records : KnownRecords)
    (old mid new : KnownFolder) → mid ≡ option_map (undone step.files) old
    → mid_records ≡ old_records
    → IsRecorded (as_undone step) mid_records new_records → new ≡ mid
    → Undoes step old_records new_records old new
undoes step old_records mid_records new_records old mid new all same noted e = record {
  restored = e ∙ all;
  recorded = subst (λ r. IsRecorded (as_undone step) r new_records) same noted;
}

-- ---- results

pub on_ok : {T E : Type 0} (r : Result T E) (P Q : Type 0) → (P → Q) → OnOk r P → OnOk r Q
on_ok (Ok x) P Q f p = f p
on_ok (Err e) P Q f p = tt

pub on_ok_of : {T E : Type 0} (r : Result T E) (P : Type 0) → P → OnOk r P
on_ok_of (Ok x) P p = p
on_ok_of (Err e) P p = tt

pub if_ok_of : {T E : Type 0} (r : Result T E) (P : T → Type 0) → ((x : T) → P x) → IfOk r P
if_ok_of (Ok x) P p = p x
if_ok_of (Err e) P p = tt

pub if_err : {T E : Type 0} (r : Result T E) (P Q : E → Type 0) → ((e : E) → P e → Q e)
    → IfErr r P → IfErr r Q
if_err (Ok x) P Q f p = tt
if_err (Err e) P Q f p = f e p
