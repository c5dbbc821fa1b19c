-- How a file is, compared with what a step found and left.
use Rattle.std.specs.Prelude.{ℕ, List, Option, Some, None, Bool, true, false, if◌then◌else◌}
use Rattle.std.specs.Str.{bytes_eq}
use Rattle.stage_records.specs.Steps.{ReplacedFile}
use Rattle.stage_records.specs.declared.file_state.FileState.{FileState}
use Rattle.stage_records.specs.declared.file_state.FileState.TheVariants.{After, Before, Edited}

-- the same bytes, or no file both times
abbrev pub is_same_file : (one other : Option (List ℕ)) → Bool
is_same_file None None = true
is_same_file (Some bytes) (Some others) = bytes_eq bytes others
is_same_file one other = false

-- as the step left it, or else as the step found it, or else edited since; by the file's bytes, if
-- there is a file
abbrev pub state_of : ReplacedFile → Option (List ℕ) → FileState
state_of file found =
    if is_same_file found (Some file.after) then After
    else if is_same_file found file.before then Before else Edited
