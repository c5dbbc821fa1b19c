-- If nothing is named as unread, all is read.
use Rattle.std.proofs.Common.{◌≡◌, ◌-◌, ◌++◌, List, [], ◌∷◌, IfOk, Ok, Err, length, refl}
use Rattle.std.specs.Prelude.{IfSome, Result, ℕ}
use Rattle.std.specs.declared.alloc.AllocError.{AllocError}
use Rattle.bounded_files.specs.Files.{KnownFiles}
use Rattle.load.specs.Opened.{IsCollected}
use Rattle.load.specs.declared.opened.CollectedManifest.{CollectedManifest}
use Rattle.stage_folder.specs.Folders.{KnownRecords}
use Rattle.stage_folder.specs.Recorded.{AreRecorded}
use Rattle.stage_folder.specs.declared.records.RecordedSteps.{RecordedSteps}
use Rattle.folder_facts.specs.Digests.{AreLeft, IsDigestOf}
use Rattle.folder_facts.specs.Offered.{AreOffered}
use Rattle.folder_facts.specs.Shown.{AreAppsShown, AreStepsShown, AreTaken}
use Rattle.folder_facts.specs.declared.apps.ShownApps.{ShownApps}
use Rattle.folder_facts.specs.declared.steps.ShownSteps.{ShownSteps}

pub none_of_first : {A : Type 0} (xs ys : List A) → xs ++ ys ≡ [] → xs ≡ []
none_of_first [] ys none = refl
none_of_first (x ∷ xs) ys none = cc

pub none_of_second : {A : Type 0} (xs ys : List A) → xs ++ ys ≡ [] → ys ≡ []
none_of_second [] ys none = none
none_of_second (x ∷ xs) ys none = cc

pub as_few : {A B : Type 0} (xs : List A) (ys : List B) → length xs ≡ length ys → xs ≡ []
    → ys ≡ []
as_few xs [] same none = refl
as_few [] (y ∷ ys) same none = cc
as_few (x ∷ xs) (y ∷ ys) same none = cc

pub apps_shown : (files : KnownFiles) (path : List ℕ) (collected : CollectedManifest)
    (result : Result ShownApps AllocError) → IsCollected files path collected
    → IfOk result (λ shown. AreOffered collected.sources shown.apps.items)
    → IfOk result (λ shown. IfSome shown.digest (IsDigestOf collected))
    → IfOk result (λ shown. shown.unread.items ≡ []
    → AreAppsShown files path shown.apps.items shown.digest)
apps_shown files path collected (Ok shown) is offered digest = λ none. record {
  collected = collected;
  are = is;
  are_offered = offered;
  digest_is = digest;
}
apps_shown files path collected (Err fault) is offered digest = offered

pub steps_shown : (files : KnownFiles) (path : List ℕ) (records : KnownRecords)
    (recorded : RecordedSteps) (result : Result ShownSteps AllocError)
    → AreRecorded records recorded
    → IfOk result (λ shown. AreTaken recorded.steps.items shown.steps.items)
    → IfOk result (λ shown. length shown.unread.items ≡ length recorded.unread.items)
    → IfOk result (λ shown. shown.earlier ≡ length recorded.steps.items - 20)
    → IfOk result (λ shown. AreLeft files path recorded.steps.items shown.left.digests.items)
    → IfOk result (λ shown. shown.unread.items ≡ []
    → AreStepsShown files path records shown.steps.items shown.earlier
    shown.left.digests.items)
steps_shown files path records recorded (Ok shown) are taken few earlier left = λ none. record {
  recorded = recorded;
  are = are;
  all_read = as_few shown.unread.items recorded.unread.items few none;
  are_taken = taken;
  earlier_is = earlier;
  are_left = left;
}
steps_shown files path records recorded (Err fault) are taken few earlier left = taken
