-- Undoing some files of a step leaves none of them edited.
use Rattle.std.proofs.Common.{◌≡◌, ◌≢◌, ◌∙◌, ◌+◌, ap, refl, sym, ℕ, zero, suc, List, [], ◌∷◌}
use Rattle.std.proofs.Common.{Bool, true, false, not, ◌||◌, ◌&&◌, true≢false}
use Rattle.std.specs.Prelude.{All, Option, Some, None, cond, drop, if◌then◌else◌}
use Rattle.std.specs.List.{list_any, position_from}
use Rattle.std.specs.Str.{bytes_eq}
use Rattle.std.proofs.lemmas.List.Elements.{All-nil, All-cons, All-head, All-tail}
use Rattle.std.proofs.lemmas.Slice.Eq.{bytes_eq-Decides}
use Rattle.stage_folder.specs.Folders.{Folder, put}
use Rattle.stage_folder.specs.Steps.{edited_place, has_distinct_names, is_edited}
use Rattle.stage_folder.specs.Steps.{is_edited_state, undone}
use Rattle.stage_records.specs.FileStates.{is_same_file, state_of}
use Rattle.stage_records.specs.Steps.{ReplacedFile}
use Rattle.stage_records.specs.declared.file_state.FileState.TheVariants.{After, Before, Edited}

-- no file of a step is edited
abbrev NoneEdited : List ReplacedFile → Folder → Type 0
NoneEdited files folder = All (λ file. is_edited folder file ≡ false) files

-- no file of a step has this name
abbrev Lacks : List ReplacedFile → List ℕ → Type 0
Lacks files name = All (λ file. file.name ≢ name) files

-- ---- names

both : (a b : Bool) → (a && b) ≡ true → (a ≡ true) × (b ≡ true)
both true b h = (refl, h)
both false b h = absurd (true≢false (sym h))

neither : (a b : Bool) → not (a || b) ≡ true → (a ≡ false) × (not b ≡ true)
neither false b h = (refl, h)
neither true b h = absurd (true≢false (sym h))

differ : (name other : List ℕ) → bytes_eq name other ≡ false → name ≢ other
differ name other not_same is =
    true≢false (sym ((bytes_eq-Decides name other).1 is) ∙ not_same)

none_named : (files : List ReplacedFile) (name : List ℕ)
    → not (list_any (λ other. bytes_eq other.name name) files) ≡ true → Lacks files name
none_named [] name h = All-nil (λ f. f.name ≢ name)
none_named (file ∷ files) name h =
    let parts = neither (bytes_eq file.name name)
    (list_any (λ other. bytes_eq other.name name) files) h in
    All-cons (λ f. f.name ≢ name) file files (differ file.name name parts.0)
    (none_named files name parts.1)

-- ---- folders

kept_if : (b : Bool) (name other : List ℕ) (put_in old : Option (List ℕ))
    → bytes_eq other name ≡ b → other ≢ name → (if b then put_in else old) ≡ old
kept_if true name other put_in old is apart =
    absurd (apart ((bytes_eq-Decides other name).0 is))
kept_if false name other put_in old is apart = refl

put_apart : (file : ReplacedFile) (folder : Folder) (other : List ℕ) → other ≢ file.name
    → put file.name file.before folder other ≡ folder other
put_apart file folder other apart =
    kept_if (bytes_eq other file.name) file.name other file.before (folder other) refl apart

put_is : (file : ReplacedFile) (folder : Folder)
    → put file.name file.before folder file.name ≡ file.before
put_is file folder = ap (λ (b : Bool). if b then file.before else folder file.name)
    ((bytes_eq-Decides file.name file.name).1 refl)

undone_apart : (more : ℕ) (files : List ReplacedFile) (folder : Folder) (name : List ℕ)
    → Lacks files name → undone (drop more files) folder name ≡ folder name
undone_apart zero [] folder name lacks = refl
undone_apart zero (file ∷ files) folder name lacks =
    put_apart file (undone files folder) name
    (λ is. All-head (λ f. f.name ≢ name) file files lacks (sym is))
    ∙ undone_apart zero files folder name (All-tail (λ f. f.name ≢ name) file files lacks)
undone_apart (suc more) [] folder name lacks = refl
undone_apart (suc more) (file ∷ files) folder name lacks =
    undone_apart more files folder name (All-tail (λ f. f.name ≢ name) file files lacks)

-- ---- states

same_file : (bytes : Option (List ℕ)) → is_same_file bytes bytes ≡ true
same_file None = refl
same_file (Some bytes) = (bytes_eq-Decides bytes bytes).1 refl

not_edited : (is_after is_before : Bool) → is_before ≡ true
    → is_edited_state (if is_after then After else (if is_before then Before else Edited)) ≡ false
not_edited true is_before h = refl
not_edited false true h = refl
not_edited false false h = absurd (true≢false (sym h))

as_found : (file : ReplacedFile) (folder : Folder) → folder file.name ≡ file.before
    → is_edited folder file ≡ false
as_found file folder is =
    not_edited (is_same_file (folder file.name) (Some file.after))
    (is_same_file (folder file.name) file.before)
    (ap (λ bytes. is_same_file bytes file.before) is ∙ same_file file.before)

as_in : (file : ReplacedFile) (one other : Folder) → one file.name ≡ other file.name
    → is_edited other file ≡ false → is_edited one file ≡ false
as_in file one other is h = ap (λ bytes. is_edited_state (state_of file bytes)) is ∙ h

put_others : (file : ReplacedFile) (files : List ReplacedFile) (folder : Folder)
    → Lacks files file.name → NoneEdited files folder
    → NoneEdited files (put file.name file.before folder)
put_others file [] folder lacks none =
    All-nil (λ f. is_edited (put file.name file.before folder) f ≡ false)
put_others file (other ∷ files) folder lacks none =
    let next = put file.name file.before folder in
    All-cons (λ f. is_edited next f ≡ false) other files
    (as_in other next folder (put_apart file folder other.name
    (All-head (λ f. f.name ≢ file.name) other files lacks))
    (All-head (λ f. is_edited folder f ≡ false) other files none))
    (put_others file files folder (All-tail (λ f. f.name ≢ file.name) other files lacks)
    (All-tail (λ f. is_edited folder f ≡ false) other files none))

-- ---- the step

none_after : (more : ℕ) (files : List ReplacedFile) (folder : Folder)
    → has_distinct_names files ≡ true → NoneEdited files folder
    → NoneEdited files (undone (drop more files) folder)
none_after zero [] folder distinct none = none
none_after zero (file ∷ files) folder distinct none =
    let parts = both _ _ distinct in
    let rest = undone files folder in
    All-cons (λ f. is_edited (put file.name file.before rest) f ≡ false) file files
    (as_found file (put file.name file.before rest) (put_is file rest))
    (put_others file files rest (none_named files file.name parts.0)
    (none_after zero files folder parts.1
    (All-tail (λ f. is_edited folder f ≡ false) file files none)))
none_after (suc more) [] folder distinct none = none
none_after (suc more) (file ∷ files) folder distinct none =
    let parts = both _ _ distinct in
    let next = undone (drop more files) folder in
    All-cons (λ f. is_edited next f ≡ false) file files
    (as_in file next folder
    (undone_apart more files folder file.name (none_named files file.name parts.0))
    (All-head (λ f. is_edited folder f ≡ false) file files none))
    (none_after more files folder parts.1
    (All-tail (λ f. is_edited folder f ≡ false) file files none))

-- ---- the place of the first

some_first : (b : Bool) (place : ℕ) (rest : Option ℕ) → cond b (Some place) rest ≡ None
    → (b ≡ false) × (rest ≡ None)
some_first false place rest h = (refl, h)
some_first true place rest h = absurd (true≢false (ap is_there (sym h)))
  where
    is_there : Option ℕ → Bool
    is_there None = true
    is_there (Some n) = false

none_at : (files : List ReplacedFile) (folder : Folder) (place : ℕ)
    → position_from (is_edited folder) place files ≡ None → NoneEdited files folder
none_at [] folder place h = All-nil (λ f. is_edited folder f ≡ false)
none_at (file ∷ files) folder place h =
    let parts = some_first (is_edited folder file) place
    (position_from (is_edited folder) (place + 1) files) h in
    All-cons (λ f. is_edited folder f ≡ false) file files parts.0
    (none_at files folder (place + 1) parts.1)

no_place : (files : List ReplacedFile) (folder : Folder) (place : ℕ) → NoneEdited files folder
    → position_from (is_edited folder) place files ≡ None
no_place [] folder place none = refl
no_place (file ∷ files) folder place none =
    let rest : Option ℕ = position_from (is_edited folder) (place + 1) files in
    ap (λ (b : Bool). cond b (Some place) rest)
    (All-head (λ f. is_edited folder f ≡ false) file files none)
    ∙ no_place files folder (place + 1)
    (All-tail (λ f. is_edited folder f ≡ false) file files none)

pub undone_unedited : (files : List ReplacedFile) (folder : Folder) (more : ℕ)
    → has_distinct_names files ≡ true → edited_place files folder ≡ None
    → edited_place files (undone (drop more files) folder) ≡ None
undone_unedited files folder more distinct none =
    no_place files (undone (drop more files) folder) 0
    (none_after more files folder distinct (none_at files folder 0 none))
