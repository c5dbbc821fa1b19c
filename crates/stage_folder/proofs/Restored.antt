-- Undoing a step gives the folder that the step found.
use Rattle.std.proofs.Common.{◌≡◌, ◌≢◌, ◌∙◌, ap, refl, sym, ℕ, zero, suc, List, [], ◌∷◌}
use Rattle.std.proofs.Common.{Bool, true, false, true≢false}
use Rattle.std.specs.Prelude.{All, Option, Some, take, if◌then◌else◌}
use Rattle.std.proofs.lemmas.List.Elements.{All-nil, All-cons, All-head, All-tail}
use Rattle.std.proofs.lemmas.Slice.Eq.{bytes_eq-Decides}
use Rattle.std.specs.Str.{bytes_eq}
use Rattle.stage_records.specs.Steps.{ReplacedFile}
use Rattle.stage_folder.specs.Folders.{Folder, put}
use Rattle.stage_folder.specs.Steps.{DifferOnlyIn, IsFoundBy, done, undone}

-- no file of a step has this name
abbrev pub Lacks : List ReplacedFile → List ℕ → Type 0
Lacks files name = All (λ file. file.name ≢ name) files

pub not_equal : (name other : List ℕ) → bytes_eq other name ≡ false → name ≢ other
not_equal name other differ is =
    true≢false (sym ((bytes_eq-Decides other name).1 (sym is)) ∙ differ)

-- ---- undoing

restored_if : (b : Bool) (name other : List ℕ) (before rest found : Option (List ℕ))
    → bytes_eq other name ≡ b → (other ≡ name → before ≡ found)
    → (name ≢ other → rest ≡ found) → (if b then before else rest) ≡ found
restored_if true name other before rest found is same apart =
    same ((bytes_eq-Decides other name).0 is)
restored_if false name other before rest found is same apart = apart (not_equal name other is)

restored_at : (files : List ReplacedFile) (folder now : Folder) (name : List ℕ)
    → IsFoundBy files folder → (Lacks files name → now name ≡ folder name)
    → undone files now name ≡ folder name
restored_at [] folder now name found same = same (All-nil (λ file. file.name ≢ name))
restored_at (file ∷ files) folder now name found same =
    restored_if (bytes_eq name file.name) file.name name file.before (undone files now name)
    (folder name) refl
    (λ is. sym (All-head (λ f. folder f.name ≡ f.before) file files found) ∙ ap folder (sym is))
    (λ apart. restored_at files folder now name
    (All-tail (λ f. folder f.name ≡ f.before) file files found)
    (λ lacks. same (All-cons (λ f. f.name ≢ name) file files apart lacks)))

pub undone_any : (files : List ReplacedFile) (folder now : Folder) → IsFoundBy files folder
    → DifferOnlyIn files now folder → undone files now ≡ folder
undone_any files folder now found same =
    λ i. λ name. restored_at files folder now name found (same name) i

-- ---- performing

pub kept_if : (b : Bool) (name other : List ℕ) (after old : Option (List ℕ))
    → bytes_eq other name ≡ b → name ≢ other → (if b then after else old) ≡ old
kept_if true name other after old is apart =
    absurd (apart (sym ((bytes_eq-Decides other name).0 is)))
kept_if false name other after old is apart = refl

pub done_apart : (count : ℕ) (files : List ReplacedFile) (folder : Folder) (name : List ℕ)
    → Lacks files name → done (take count files) folder name ≡ folder name
done_apart zero files folder name lacks = refl
done_apart (suc count) [] folder name lacks = refl
done_apart (suc count) (file ∷ files) folder name lacks =
    done_apart count files (put file.name (Some file.after) folder) name
    (All-tail (λ f. f.name ≢ name) file files lacks)
    ∙ kept_if (bytes_eq name file.name) file.name name (Some file.after) (folder name) refl
    (All-head (λ f. f.name ≢ name) file files lacks)

pub undone_done : (files : List ReplacedFile) (folder : Folder) (count : ℕ)
    → IsFoundBy files folder → undone files (done (take count files) folder) ≡ folder
undone_done files folder count found =
    undone_any files folder (done (take count files) folder) found
    (λ name lacks. done_apart count files folder name lacks)
