-- Each file that a step replaces gets other bytes than it had.
use Rattle.std.proofs.Common.{◌≡◌, ◌∙◌, ap, subst, sym, ℕ, List, []}
use Rattle.std.proofs.Common.{Bool, true, false, not, true≢false}
use Rattle.std.specs.Prelude.{All, Option, Some, None, filter, option_to_list}
use Rattle.std.proofs.lemmas.List.Elements.{All-cons, All-nil, filter_passes}
use Rattle.std.proofs.lemmas.Slice.Eq.{bytes_eq-Decides}
use Rattle.stage_folder.specs.Folders.{GivesFile, KnownFolder}
use Rattle.stage_folder.specs.Steps.{is_change}
use Rattle.stage_records.specs.FileStates.{is_same_file}
use Rattle.stage_records.specs.Steps.{ReplacedFile}
use Rattle.stage_commands.specs.Apps.{ReplacesBy}

same_is : (before : Option (List ℕ)) (bytes : List ℕ) → is_same_file before (Some bytes) ≡ true
    → before ≡ Some bytes
same_is None bytes is = absurd (true≢false (sym is))
same_is (Some found) bytes is = ap (λ b. Some b) ((bytes_eq-Decides found bytes).0 is)

pub has_them : (known : KnownFolder) (name bytes : List ℕ) (before : Option (List ℕ))
    (has : Bool) → has ≡ is_same_file before (Some bytes) → has ≡ true
    → GivesFile known name before → ReplacesBy known name bytes None
has_them known name bytes before has is so given =
    subst (GivesFile known name) (same_is before bytes (sym is ∙ so)) given

pub gets_others : (known : KnownFolder) (name bytes : List ℕ) (before : Option (List ℕ))
    (has : Bool) (file : ReplacedFile) → has ≡ is_same_file before (Some bytes) → has ≡ false
    → file.name ≡ name → file.before ≡ before → file.after ≡ bytes
    → GivesFile known name before → ReplacesBy known name bytes (Some file)
gets_others known name bytes before has file is so named was gets given = (
  named,
  gets,
  ap not (ap (λ b. is_same_file b (Some file.after)) was
      ∙ ap (λ a. is_same_file before (Some a)) gets ∙ sym is ∙ so),
  subst (GivesFile known name) (sym was) given,
)

pub changes_file : (known : KnownFolder) (name bytes : List ℕ) (file : Option ReplacedFile)
    → ReplacesBy known name bytes file → All (λ f. is_change f ≡ true) (option_to_list file)
changes_file known name bytes None by = All-nil (λ f. is_change f ≡ true)
changes_file known name bytes (Some file) by =
    All-cons (λ f. is_change f ≡ true) file [] by.2 (All-nil (λ f. is_change f ≡ true))

pub changes_all : (all files : List ReplacedFile) → files ≡ filter is_change all
    → All (λ f. is_change f ≡ true) files
changes_all all files are =
    subst (All (λ f. is_change f ≡ true)) (sym are) (filter_passes is_change all)
