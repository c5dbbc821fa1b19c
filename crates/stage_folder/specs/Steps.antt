-- What a step makes of a folder, and what undoing it does.
use Rattle.std.specs.Prelude.{◌≡◌, ◌≢◌, ℕ, List, [], ◌∷◌, All, take, drop, Bool, true, false}
use Rattle.std.specs.Prelude.{find, not, ◌&&◌, IfSome, Option, Some, option_map}
use Rattle.std.specs.List.{list_any, position_from}
use Rattle.std.specs.Str.{bytes_eq}
use Rattle.stage_records.specs.FileStates.{is_same_file, state_of}
use Rattle.stage_records.specs.Steps.{ReplacedFile}
use Rattle.stage_records.specs.declared.file_state.FileState.{FileState}
use Rattle.stage_records.specs.declared.file_state.FileState.TheVariants.{After, Before, Edited}
use Rattle.stage_folder.specs.Folders.{Folder, KnownFolder, put}
use Rattle.stage_folder.specs.declared.folder_fault.UndoFault.{UndoFault}
use Rattle.stage_folder.specs.declared.folder_fault.UndoFault.TheVariants as fault

-- each file of a step, from the first to the last, gets its bytes `after`
abbrev pub done : List ReplacedFile → Folder → Folder
done [] folder = folder
done (file ∷ files) folder = done files (put file.name (Some file.after) folder)

-- each file of a step, from the last to the first, gets its bytes `before`, or is removed
abbrev pub undone : List ReplacedFile → Folder → Folder
undone [] folder = folder
undone (file ∷ files) folder = put file.name file.before (undone files folder)

-- some files from the first on are replaced, and all others are as before
abbrev pub IsPartlyDone : List ReplacedFile → (old new : KnownFolder) → Type 0
IsPartlyDone files old new = (count : ℕ) × (new ≡ option_map (done (take count files)) old)

-- some files up to the last are as the step found them, and all others are as before
abbrev pub IsPartlyUndone : List ReplacedFile → (old new : KnownFolder) → Type 0
IsPartlyUndone files old new = (count : ℕ) × (new ≡ option_map (undone (drop count files)) old)

-- ---- edited files

abbrev pub is_edited_state : FileState → Bool
is_edited_state Edited = true
is_edited_state After = false
is_edited_state Before = false

-- a file is neither as the step left it nor as the step found it
abbrev pub is_edited : Folder → ReplacedFile → Bool
is_edited folder file = is_edited_state (state_of file (folder file.name))

-- a step isn't undone, because a file was edited since
abbrev pub IsEdited : UndoFault → Type 0
IsEdited (fault.Edited file) = Unit {0}
IsEdited (fault.Stopped at) = ⊥

-- the place of the first edited file, counted from 0
abbrev pub edited_place : List ReplacedFile → Folder → Option ℕ
edited_place files folder = position_from (is_edited folder) 0 files

-- a fault that says that a file was edited names the first such file
abbrev pub NamesEdited : List ReplacedFile → KnownFolder → UndoFault → Type 0
NamesEdited files known (fault.Edited file) =
    IfSome known (λ folder. edited_place files folder ≡ Some file)
NamesEdited files known (fault.Stopped at) = Unit {0}

-- ---- what a step leaves

abbrev pub has_name : (name : List ℕ) → ReplacedFile → Bool
has_name name file = bytes_eq file.name name

-- the bytes `after` of a step's first file of this name; none if it has none
abbrev pub left_by : List ReplacedFile → (name : List ℕ) → Option (List ℕ)
left_by files name = option_map (λ file. file.after) (find (has_name name) files)

-- a step changes the bytes of a file
abbrev pub is_change : ReplacedFile → Bool
is_change file = not (is_same_file file.before (Some file.after))

-- ---- laws

-- no two files of a step have one name
abbrev pub has_distinct_names : List ReplacedFile → Bool
has_distinct_names [] = true
has_distinct_names (file ∷ files) =
    not (list_any (λ other. bytes_eq other.name file.name) files) && has_distinct_names files

-- the step found this folder
abbrev pub IsFoundBy : List ReplacedFile → Folder → Type 0
IsFoundBy files folder = All (λ file. folder file.name ≡ file.before) files

-- two folders differ at most in the files of a step
abbrev pub DifferOnlyIn : List ReplacedFile → (one other : Folder) → Type 0
DifferOnlyIn files one other =
    (name : List ℕ) → All (λ file. file.name ≢ name) files → one name ≡ other name
