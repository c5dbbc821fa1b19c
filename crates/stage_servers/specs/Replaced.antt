-- Files, of which a step's are as after it, or as before it.
use Rattle.std.specs.Prelude.{ℕ, List, [], find, Bool, if◌then◌else◌, true}
use Rattle.std.specs.Prelude.{Option, Some, None, option_map, unwrap_or}
use Rattle.bounded_files.specs.Files.{KnownFile, KnownFiles}
use Rattle.stage_folder.specs.Steps.{has_name}
use Rattle.stage_records.specs.Steps.{ReplacedFile}

-- the first file of this name
abbrev pub file_named : List ReplacedFile → (name : List ℕ) → Option ReplacedFile
file_named files name = find (has_name name) files

-- the bytes of a file after its step, or before it; a file that was missing counts as empty
abbrev pub bytes_then : (is_after : Bool) → ReplacedFile → List ℕ
bytes_then is_after file = if is_after then file.after else unwrap_or file.before []

-- what a name gives then
abbrev pub given_then : (is_after : Bool) → Option ReplacedFile → Option KnownFile
    → Option KnownFile
given_then is_after (Some file) other =
    Some (record { bytes = bytes_then is_after file; is_regular = true })
given_then is_after None other = other

-- these files, of which a step's are as after it, or as before it
abbrev pub files_then : (is_after : Bool) → List ReplacedFile → KnownFiles → KnownFiles
files_then is_after replaced known = option_map
    (λ files. λ name. given_then is_after (file_named replaced name) (files name)) known
