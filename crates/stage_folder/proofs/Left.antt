-- What a step leaves, and that its changes leave the same.
use Rattle.std.proofs.Common.{◌≡◌, ◌∙◌, ap, refl, sym, ℕ, List, [], ◌∷◌}
use Rattle.std.proofs.Common.{Bool, true, false, true≢false, cond, length, take_all, arith}
use Rattle.std.specs.Prelude.{Option, Some, None, filter, find, not, option_map}
use Rattle.std.specs.Str.{bytes_eq}
use Rattle.std.proofs.lemmas.List.Elements.{All-head, All-tail}
use Rattle.std.proofs.lemmas.Slice.Eq.{bytes_eq-Decides}
use Rattle.stage_records.specs.FileStates.{is_same_file}
use Rattle.stage_records.specs.Steps.{ReplacedFile}
use Rattle.stage_folder.specs.Folders.{Folder, put}
use Rattle.stage_folder.specs.Steps.{IsFoundBy, done, has_distinct_names, has_name}
use Rattle.stage_folder.specs.Steps.{is_change, left_by}
use Rattle.stage_folder.proofs.Restored.{Lacks, done_apart}
use Rattle.stage_folder.proofs.Undoable.{both, none_named, put_is, still_found}

-- ---- what it leaves

none_is : (bytes : List ℕ) (A : Type 0) → None ≡ Some bytes → A
none_is bytes A is = absurd (true≢false (ap is_some_none (sym is)))
  where
    is_some_none : Option (List ℕ) → Bool
    is_some_none None = false
    is_some_none (Some x) = true

done_all_apart : (files : List ReplacedFile) (folder : Folder) (name : List ℕ)
    → Lacks files name → done files folder name ≡ folder name
done_all_apart files folder name lacks =
    ap (λ fs. done fs folder name) (sym (take_all (length files) files (omega arith)))
    ∙ done_apart (length files) files folder name lacks

left_if : (b : Bool) (file : ReplacedFile) (files : List ReplacedFile) (folder : Folder)
    (name bytes : List ℕ) → bytes_eq file.name name ≡ b → Lacks files file.name
    → (left_by files name ≡ Some bytes
    → done files (put file.name (Some file.after) folder) name ≡ Some bytes)
    → option_map (λ f. f.after) (cond b (Some file) (find (has_name name) files)) ≡ Some bytes
    → done files (put file.name (Some file.after) folder) name ≡ Some bytes
left_if true file files folder name bytes same lacks rest is =
    let named : file.name ≡ name = (bytes_eq-Decides file.name name).0 same in
    let next = put file.name (Some file.after) folder in
    ap (λ n. done files next n) (sym named)
    ∙ done_all_apart files next file.name lacks ∙ put_is file folder ∙ is
left_if false file files folder name bytes same lacks rest is = rest is

pub left_done : (files : List ReplacedFile) (folder : Folder) (name bytes : List ℕ)
    → has_distinct_names files ≡ true → left_by files name ≡ Some bytes
    → done files folder name ≡ Some bytes
left_done [] folder name bytes distinct is = none_is bytes _ is
left_done (file ∷ files) folder name bytes distinct is =
    let parts = both _ _ distinct in
    left_if (bytes_eq file.name name) file files folder name bytes refl
    (none_named files file.name parts.0)
    (λ rest. left_done files (put file.name (Some file.after) folder) name bytes parts.1 rest) is

-- ---- only its changes

same_file_is : (one other : Option (List ℕ)) → is_same_file one other ≡ true → one ≡ other
same_file_is None None is = refl
same_file_is None (Some bytes) is = absurd (true≢false (sym is))
same_file_is (Some bytes) None is = absurd (true≢false (sym is))
same_file_is (Some one) (Some other) is =
    ap (λ b. Some b) ((bytes_eq-Decides one other).0 is)

not_not : (b : Bool) → not b ≡ false → b ≡ true
not_not true is = refl
not_not false is = absurd (true≢false is)

put_same_at : (b : Bool) (file : ReplacedFile) (folder : Folder) (name : List ℕ)
    → bytes_eq name file.name ≡ b → folder file.name ≡ Some file.after
    → cond b (Some file.after) (folder name) ≡ folder name
put_same_at true file folder name named is =
    sym is ∙ ap folder (sym ((bytes_eq-Decides name file.name).0 named))
put_same_at false file folder name named is = refl

put_same : (file : ReplacedFile) (folder : Folder) → folder file.name ≡ Some file.after
    → put file.name (Some file.after) folder ≡ folder
put_same file folder is =
    λ i. λ name. put_same_at (bytes_eq name file.name) file folder name refl is i

changes_if : (b : Bool) (file : ReplacedFile) (files : List ReplacedFile) (folder : Folder)
    → is_change file ≡ b → folder file.name ≡ file.before
    → ((next : Folder) → IsFoundBy files next
    → done (filter is_change files) next ≡ done files next)
    → IsFoundBy files folder → IsFoundBy files (put file.name (Some file.after) folder)
    → done (cond b (file ∷ filter is_change files) (filter is_change files)) folder
    ≡ done files (put file.name (Some file.after) folder)
changes_if true file files folder is was rest found next =
    rest (put file.name (Some file.after) folder) next
changes_if false file files folder is was rest found next =
    let same = same_file_is file.before (Some file.after)
    (not_not (is_same_file file.before (Some file.after)) is) in
    rest folder found ∙ ap (done files) (sym (put_same file folder (was ∙ same)))

pub changes_done : (files : List ReplacedFile) (folder : Folder)
    → has_distinct_names files ≡ true → IsFoundBy files folder
    → done (filter is_change files) folder ≡ done files folder
changes_done [] folder distinct found = refl
changes_done (file ∷ files) folder distinct found =
    let parts = both _ _ distinct in
    let rest = All-tail (λ f. folder f.name ≡ f.before) file files found in
    changes_if (is_change file) file files folder refl
    (All-head (λ f. folder f.name ≡ f.before) file files found)
    (λ next is. changes_done files next parts.1 is) rest
    (still_found file files folder (none_named files file.name parts.0) rest)
