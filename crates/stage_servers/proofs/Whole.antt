-- What is known of each file and record makes a whole folder.
use Rattle.std.proofs.Common.{◌≡◌, ◌∙◌, refl, subst, sym, List, [], ◌∷◌, Bool, true, false}
use Rattle.std.proofs.Common.{true≢false}
use Rattle.std.specs.Prelude.{◌&&◌, All, IfSome, Some, None}
use Rattle.std.proofs.lemmas.List.Elements.{All-cons}
use Rattle.stage_folder.specs.Folders.{KnownFolder, KnownRecords}
use Rattle.stage_folder.specs.Recorded.{AreRecorded}
use Rattle.stage_folder.specs.declared.records.RecordedSteps.{RecordedSteps}
use Rattle.stage_records.specs.FileStates.{state_of}
use Rattle.stage_records.specs.Steps.{ReplacedFile, StagingStep, last_step}
use Rattle.stage_records.specs.declared.file_state.FileState.{FileState}
use Rattle.stage_records.specs.declared.file_state.FileState.TheVariants.{After}
use Rattle.stage_servers.specs.Whole.{AreAllRead, AreAsLeft, IsAsLeft, IsWhole}

pub as_left : (folder : KnownFolder) (file : ReplacedFile) (state : FileState)
    → IfSome folder (λ known. state ≡ state_of file (known file.name)) → state ≡ After
    → IsAsLeft folder file
as_left None file state is after = tt
as_left (Some known) file state is after = sym is ∙ after

pub both_left : (folder : KnownFolder) (file : ReplacedFile) (files : List ReplacedFile)
    (one others : Bool) → (one ≡ true → IsAsLeft folder file)
    → (others ≡ true → All (IsAsLeft folder) files) → (one && others) ≡ true
    → All (IsAsLeft folder) (file ∷ files)
both_left folder file files true true is are both =
    All-cons (IsAsLeft folder) file files (is refl) (are refl)
both_left folder file files true false is are both = absurd (true≢false (sym both))
both_left folder file files false others is are both = absurd (true≢false (sym both))

pub last_left : (folder : KnownFolder) (steps : List StagingStep) (step : StagingStep)
    → Some step ≡ last_step steps → All (IsAsLeft folder) step.files → AreAsLeft folder steps
last_left folder steps step is are =
    subst (λ o. IfSome o (λ s. All (IsAsLeft folder) s.files)) is are

pub none_left : (folder : KnownFolder) (steps : List StagingStep) → None ≡ last_step steps
    → AreAsLeft folder steps
none_left folder steps is = subst (λ o. IfSome o (λ s. All (IsAsLeft folder) s.files)) is tt

pub all_read : (records : KnownRecords) (recorded : RecordedSteps) → AreRecorded records recorded
    → recorded.unread.items ≡ [] → AreAllRead records recorded
all_read records recorded are none = record { are = are; all_read = none }

pub whole : (records : KnownRecords) (folder : KnownFolder) (recorded : RecordedSteps)
    → AreRecorded records recorded → recorded.unread.items ≡ []
    → AreAsLeft folder recorded.steps.items → IsWhole records folder
whole records folder recorded are none left = record {
  recorded = recorded;
  are = record { are = are; all_read = none };
  as_left = left;
}
