-- No file of a step is edited after the step was performed, whole or in part.
use Rattle.std.proofs.Common.{◌≡◌, ◌≢◌, ◌∙◌, ◌+◌, ap, refl, sym, ℕ, zero, suc, List, [], ◌∷◌}
use Rattle.std.proofs.Common.{Bool, true, false, not, ◌||◌, ◌&&◌, true≢false}
use Rattle.std.specs.Prelude.{All, Option, Some, None, take, cond, if◌then◌else◌}
use Rattle.std.specs.List.{list_any, position_from}
use Rattle.std.proofs.lemmas.List.Elements.{All-nil, All-cons, All-head, All-tail}
use Rattle.std.proofs.lemmas.Slice.Eq.{bytes_eq-Decides}
use Rattle.std.specs.Str.{bytes_eq}
use Rattle.stage_records.specs.FileStates.{is_same_file}
use Rattle.stage_records.specs.Steps.{ReplacedFile}
use Rattle.stage_records.specs.declared.file_state.FileState.TheVariants.{After, Before, Edited}
use Rattle.stage_folder.specs.Folders.{Folder, put}
use Rattle.stage_folder.specs.Steps.{IsFoundBy, done, edited_place, has_distinct_names}
use Rattle.stage_folder.specs.Steps.{is_edited, is_edited_state}
use Rattle.stage_folder.proofs.Restored.{Lacks, done_apart, kept_if, not_equal}

-- ---- names

false_or : (a b : Bool) → not (a || b) ≡ true → (not a ≡ true) × (not b ≡ true)
false_or false b h = (refl, h)
false_or true b h = absurd (true≢false (sym h))

pub both : (a b : Bool) → (a && b) ≡ true → (a ≡ true) × (b ≡ true)
both true b h = (refl, h)
both false b h = absurd (true≢false (sym h))

is_false : (a : Bool) → not a ≡ true → a ≡ false
is_false false h = refl
is_false true h = absurd (true≢false (sym h))

pub none_named : (files : List ReplacedFile) (name : List ℕ)
    → not (list_any (λ other. bytes_eq other.name name) files) ≡ true → Lacks files name
none_named [] name h = All-nil (λ file. file.name ≢ name)
none_named (file ∷ files) name h =
    let parts = false_or (bytes_eq file.name name)
    (list_any (λ other. bytes_eq other.name name) files) h in
    All-cons (λ f. f.name ≢ name) file files
    (λ is. not_equal name file.name (is_false (bytes_eq file.name name) parts.0) (sym is))
    (none_named files name parts.1)

-- ---- states

same_file : (bytes : Option (List ℕ)) → is_same_file bytes bytes ≡ true
same_file None = refl
same_file (Some bytes) = (bytes_eq-Decides bytes bytes).1 refl

neither : (a b : Bool) → a ≡ true
    → is_edited_state (if b then After else (if a then Before else Edited)) ≡ false
neither true true h = refl
neither true false h = refl
neither false b h = absurd (true≢false (sym h))

found_state : (file : ReplacedFile) (folder : Folder) → folder file.name ≡ file.before
    → is_edited folder file ≡ false
found_state file folder is =
    neither (is_same_file (folder file.name) file.before)
    (is_same_file (folder file.name) (Some file.after))
    (ap (λ bytes. is_same_file bytes file.before) is ∙ same_file file.before)

left_state : (file : ReplacedFile) (folder : Folder) → folder file.name ≡ Some file.after
    → is_edited folder file ≡ false
left_state file folder is =
    let now = folder file.name in
    ap (λ (b : Bool). is_edited_state
    (if b then After else (if is_same_file now file.before then Before else Edited)))
    (ap (λ bytes. is_same_file bytes (Some file.after)) is ∙ same_file (Some file.after))

-- ---- the step

pub put_is : (file : ReplacedFile) (folder : Folder)
    → put file.name (Some file.after) folder file.name ≡ Some file.after
put_is file folder =
    ap (λ (b : Bool). cond b (Some file.after) (folder file.name))
    ((bytes_eq-Decides file.name file.name).1 refl)

pub still_found : (file : ReplacedFile) (files : List ReplacedFile) (folder : Folder)
    → Lacks files file.name → IsFoundBy files folder
    → IsFoundBy files (put file.name (Some file.after) folder)
still_found file files folder lacks found =
    λ k d lt. kept_if _ file.name _ (Some file.after) _ refl (λ is. lacks k d lt (sym is))
    ∙ found k d lt

none_edited : (count : ℕ) (files : List ReplacedFile) (folder : Folder)
    → has_distinct_names files ≡ true → IsFoundBy files folder
    → All (λ file. is_edited (done (take count files) folder) file ≡ false) files
none_edited zero files folder distinct found =
    λ k d lt. found_state _ folder (found k d lt)
none_edited (suc count) [] folder distinct found = All-nil (λ file. is_edited folder file ≡ false)
none_edited (suc count) (file ∷ files) folder distinct found =
    let parts = both _ _ distinct in
    let lacks = none_named files file.name parts.0 in
    let next = put file.name (Some file.after) folder in
    let last = done (take count files) next in
    All-cons (λ f. is_edited last f ≡ false) file files
    (left_state file last
    (done_apart count files next file.name lacks ∙ put_is file folder))
    (none_edited count files next parts.1
    (still_found file files folder lacks
    (All-tail (λ f. folder f.name ≡ f.before) file files found)))

no_place : (files : List ReplacedFile) (folder : Folder) (place : ℕ)
    → All (λ file. is_edited folder file ≡ false) files
    → position_from (is_edited folder) place files ≡ None
no_place [] folder place none = refl
no_place (file ∷ files) folder place none =
    let rest : Option ℕ = position_from (is_edited folder) (place + 1) files in
    ap (λ (b : Bool). cond b (Some place) rest)
    (All-head (λ f. is_edited folder f ≡ false) file files none)
    ∙ no_place files folder (place + 1)
    (All-tail (λ f. is_edited folder f ≡ false) file files none)

pub performed_undoable : (files : List ReplacedFile) (folder : Folder) (count : ℕ)
    → has_distinct_names files ≡ true → IsFoundBy files folder
    → edited_place files (done (take count files) folder) ≡ None
performed_undoable files folder count distinct found =
    no_place files (done (take count files) folder) 0
    (none_edited count files folder distinct found)
