-- The records that are read, one after the other.
use Rattle.std.proofs.Common.{◌≡◌, ◌++◌, ◌∷◌, ◌∙◌, ℕ, List, [], cond}
use Rattle.std.proofs.Common.{Bool, ap, subst, sym, refl, append_assoc, append-nil}
use Rattle.std.specs.Prelude.{filter, filter_map, Some, None, IfSome, is_none, true, false}
use Rattle.std.specs.Prelude.{Option, ◌==◌, if◌then◌else◌, option_and_then}
use Rattle.std.specs.Prelude.{Result, Ok, Err, IfOk}
use Rattle.std.specs.List.{cons_option, dedup}
use Rattle.std.specs.Prelude.{◌↔◌, Contains, IsPermutation, IsSorted}
use Rattle.std.specs.List.Sorted.{IsStrictlyIncreasing}
use Rattle.std.specs.Ordering.{nat_cmp}
use Rattle.std.proofs.Common.{eqb}
use Rattle.std.proofs.lemmas.List.Kept.{Contains-dedup_nat, Contains-from_dedup}
use Rattle.std.proofs.lemmas.List.Sorted.{Contains-permutation, IsPermutation-sym}
use Rattle.std.proofs.lemmas.Map.Keys.{IsStrictlyIncreasing-dedup}
use Rattle.stage_records.specs.FileStates.{is_same_file}
use Rattle.stage_records.specs.Steps.{StagingStep}
use Rattle.stage_folder.specs.Folders.{GivesNumbers, GivesRecord, KnownRecords}
use Rattle.stage_records.specs.Records.{step_in}
use Rattle.stage_folder.specs.Recorded.{AreRead, AreRecorded, HasRecord, IsStepAt}
use Rattle.stage_folder.specs.Recorded.{if_numbered, step_at}
use Rattle.stage_folder.specs.declared.folder_fault.FolderFault.{FolderFault}
use Rattle.stage_folder.specs.declared.records.RecordedSteps.{RecordedSteps}

-- what was read, with what the numbers that are left give, is what all numbers give
abbrev pub ReadsOn : KnownRecords → (numbers : List ℕ) → List StagingStep → (unread : List ℕ)
    → (left : List ℕ) → Type 0
ReadsOn known numbers steps unread left = IfSome known (λ records.
    (steps ++ filter_map (step_at records) left ≡ filter_map (step_at records) numbers)
    × (unread ++ filter (λ n. is_none (step_at records n)) left
    ≡ filter (λ n. is_none (step_at records n)) numbers))

pub reads_first : (known : KnownRecords) (numbers : List ℕ) → ReadsOn known numbers [] [] numbers
reads_first None numbers = tt
reads_first (Some records) numbers = (refl, refl)

-- one more element before those that are left
moves : {A : Type 0} (so_far now rest all : List A) (x : A) → now ≡ so_far ++ x ∷ []
    → so_far ++ (x ∷ rest) ≡ all → now ++ rest ≡ all
moves so_far now rest all x is h =
    ap (λ l. l ++ rest) is ∙ append_assoc so_far (x ∷ []) rest ∙ h

pub reads_step : (known : KnownRecords) (numbers : List ℕ) (steps now : List StagingStep)
    (unread left : List ℕ) (number : ℕ) (step : StagingStep)
    → IsStepAt known number (Some step) → now ≡ steps ++ step ∷ []
    → ReadsOn known numbers steps unread (number ∷ left)
    → ReadsOn known numbers now unread left
reads_step None numbers steps now unread left number step is pushed h = tt
reads_step (Some records) numbers steps now unread left number step is pushed h =
    let at = step_at records in
    let rest : List StagingStep = filter_map at left in
    let none : List ℕ = filter (λ n. is_none (at n)) left in (
      moves steps now rest (filter_map at numbers) step pushed
          (ap (λ o. steps ++ cons_option o rest) is ∙ h.0),
      ap (λ o. unread ++ cond (is_none o) (number ∷ none) none) is ∙ h.1,
    )

pub reads_none : (known : KnownRecords) (numbers : List ℕ) (steps : List StagingStep)
    (unread now left : List ℕ) (number : ℕ) → IsStepAt known number None
    → now ≡ unread ++ number ∷ [] → ReadsOn known numbers steps unread (number ∷ left)
    → ReadsOn known numbers steps now left
reads_none None numbers steps unread now left number is pushed h = tt
reads_none (Some records) numbers steps unread now left number is pushed h =
    let at = step_at records in
    let rest : List StagingStep = filter_map at left in
    let none : List ℕ = filter (λ n. is_none (at n)) left in (
      ap (λ o. steps ++ cons_option o rest) is ∙ h.0,
      moves unread now none (filter (λ n. is_none (at n)) numbers) number pushed
          (ap (λ o. unread ++ cond (is_none o) (number ∷ none) none) is ∙ h.1),
    )

pub reads_all : (known : KnownRecords) (numbers left : List ℕ) (read : RecordedSteps)
    → left ≡ [] → ReadsOn known numbers read.steps.items read.unread.items left
    → AreRead known numbers read
reads_all None numbers left read empty h = tt
reads_all (Some records) numbers left read empty h =
    let at = step_at records in (
      sym (append-nil read.steps.items)
          ∙ ap (λ l. read.steps.items ++ filter_map at l) (sym empty) ∙ h.0,
      sym (append-nil read.unread.items)
          ∙ ap (λ l. read.unread.items ++ filter (λ n. is_none (at n)) l) (sym empty) ∙ h.1,
    )

-- ---- numbers in order

given_too : (known : KnownRecords) (numbers others : List ℕ)
    → ((n : ℕ) → Contains numbers n ↔ Contains others n) → GivesNumbers known numbers
    → GivesNumbers known others
given_too None numbers others same given = tt
given_too (Some records) numbers others same given = λ n. (
  λ is. (given n).0 ((same n).1 is),
  λ some. (same n).0 ((given n).1 some),
)

-- the same numbers, in another order
moved_all : (numbers sorted : List ℕ) → IsPermutation numbers sorted
    → (n : ℕ) → Contains numbers n ↔ Contains sorted n
moved_all numbers sorted moved n = (
  Contains-permutation numbers sorted n moved,
  Contains-permutation sorted numbers n (IsPermutation-sym numbers sorted moved),
)

pub all_recorded : (known : KnownRecords) (numbers sorted rising slice : List ℕ)
    (result : Result RecordedSteps FolderFault) → GivesNumbers known numbers
    → IsPermutation numbers sorted → ((n : ℕ) → Contains sorted n ↔ Contains rising n)
    → IsStrictlyIncreasing rising → slice ≡ rising → IfOk result (AreRead known slice)
    → IfOk result (AreRecorded known)
all_recorded known numbers sorted rising slice (Err fault) given moved all order same read = tt
all_recorded known numbers sorted rising slice (Ok one) given moved all order same read = record {
  numbers = rising;
  all = given_too known sorted rising all
      (given_too known numbers sorted (moved_all numbers sorted moved) given);
  rising = order;
  read = subst (λ ns. AreRead known ns one) same read;
}

-- each of these numbers once
pub each_kept : (numbers kept : List ℕ) → kept ≡ dedup eqb numbers
    → (n : ℕ) → Contains numbers n ↔ Contains kept n
each_kept numbers kept is n = (
  λ has. subst (λ ns. Contains ns n) (sym is) (Contains-dedup_nat numbers n has),
  λ has. Contains-from_dedup eqb numbers n (subst (λ ns. Contains ns n) is has),
)

pub rises : (sorted kept : List ℕ) → IsSorted nat_cmp sorted → kept ≡ dedup eqb sorted
    → IsStrictlyIncreasing kept
rises sorted kept order is = rw is (IsStrictlyIncreasing-dedup sorted order)

-- ---- one record

-- the step that a record's bytes spell, if they spell this one
at_record : (number : ℕ) (found : Option (List ℕ)) (bytes : List ℕ) (step : StagingStep)
    → found ≡ Some bytes → step_in bytes ≡ Some step
    → option_and_then (if_numbered number) (option_and_then step_in found)
    ≡ if_numbered number step
at_record number found bytes step given spelt =
    ap (λ b. option_and_then (if_numbered number) (option_and_then step_in b)) given
    ∙ ap (λ s. option_and_then (if_numbered number) s) spelt

pub numbered : (known : KnownRecords) (number : ℕ) (bytes : List ℕ) (step : StagingStep)
    → GivesRecord known number (Some bytes) → step_in bytes ≡ Some step
    → (step.number == number) ≡ true → IsStepAt known number (Some step)
numbered None number bytes step given spelt same = tt
numbered (Some records) number bytes step given spelt same =
    sym (at_record number (records number) bytes step given spelt
    ∙ ap (λ b. if b then Some step else None) same)

pub otherwise_numbered : (known : KnownRecords) (number : ℕ) (bytes : List ℕ) (step : StagingStep)
    → GivesRecord known number (Some bytes) → step_in bytes ≡ Some step
    → (step.number == number) ≡ false → IsStepAt known number None
otherwise_numbered None number bytes step given spelt other = tt
otherwise_numbered (Some records) number bytes step given spelt other =
    sym (at_record number (records number) bytes step given spelt
    ∙ ap (λ b. if b then Some step else None) other)

-- ---- a record, compared

pub compares : (known : KnownRecords) (number : ℕ) (bytes : List ℕ) (found : Option (List ℕ))
    (has : Bool) → GivesRecord known number found → has ≡ is_same_file found (Some bytes)
    → HasRecord known number bytes has
compares None number bytes found has given is = tt
compares (Some records) number bytes found has given is =
    is ∙ ap (λ f. is_same_file f (Some bytes)) (sym given)
