-- The places of a manifest's files: names are relative to its folder.
use Rattle.std.specs.Prelude.{ℕ, List, [], Option, Some, None, option_map}
use Rattle.std.specs.Path.{path_parent, path_join}
use Rattle.bounded_files.specs.Files.{KnownFiles, most_bytes, regular_files, within}

abbrev pub folder_or_none : Option (List ℕ) → List ℕ
folder_or_none None = []
folder_or_none (Some folder) = folder

abbrev pub folder_of : List ℕ → List ℕ
folder_of manifest = folder_or_none (path_parent manifest)

-- the path of a name
abbrev pub path_in_folder : List ℕ → List ℕ → List ℕ
path_in_folder manifest name = path_join (folder_of manifest) name

-- what the names in a manifest lead to: each is relative to the folder of that manifest, and
-- anything but a regular file of at most 16 MiB counts as unreadable
abbrev pub files_in_folder : KnownFiles → List ℕ → KnownFiles
files_in_folder known manifest =
    option_map (λ files. λ name. files (path_in_folder manifest name))
    (within most_bytes (regular_files known))
