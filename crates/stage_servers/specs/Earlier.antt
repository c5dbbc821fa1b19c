-- Files as earlier steps left them, by the records, and the manifest with these files.
use Rattle.std.specs.Prelude.{◌≡◌, ℕ, List, [], ◌++◌, codes, drop, take, reverse, map, Bool, true}
use Rattle.std.specs.Prelude.{false, if◌then◌else◌, Option, Some, None}
use Rattle.std.specs.List.{flat_map}
use Rattle.bounded_files.specs.Files.{Gives, KnownFiles, regular_files}
use Rattle.load.specs.Folder.{files_in_folder}
use Rattle.load.specs.Sources.{AreSources}
use Rattle.load.specs.declared.opened.CollectedManifest.{CollectedManifest}
use Rattle.stage_records.specs.Steps.{ReplacedFile, StagingStep}
use Rattle.stage_servers.specs.Replaced.{bytes_then, file_named, files_then}

-- a file with its bytes after a step, or before it
abbrev pub file_as : (is_after : Bool) → ReplacedFile → ReplacedFile
file_as is_after file =
    record { name = file.name; before = None; after = bytes_then is_after file }

abbrev pub files_as : (is_after : Bool) → List ReplacedFile → List ReplacedFile
files_as is_after files = map (file_as is_after) files

-- the files of a step, unless it is undone
abbrev pub files_if_done : (is_after : Bool) → StagingStep → List ReplacedFile
files_if_done is_after step = if step.is_undone then [] else files_as is_after step.files

-- the files of a step as it left them, be it undone since or not
abbrev pub files_left : StagingStep → List ReplacedFile
files_left step = files_as true step.files

-- The files as the first `count` of these steps left them, each as the first of its name here: as
-- the steps from the place `first` on left them, be they undone since or not, or as later steps
-- found them, or as earlier ones left them.
module _ (steps : List StagingStep) (first count : ℕ) where
  abbrev pub files_at : List ReplacedFile
  files_at =
      flat_map files_left (reverse (drop first (take count steps)))
      ++ (flat_map (files_if_done false) (drop count steps)
      ++ flat_map (files_if_done true) (reverse (take first (take count steps))))

-- each name leads to the same file in both
abbrev pub AreNamedAs : (files all : List ReplacedFile) → Type 0
AreNamedAs files all = (name : List ℕ) → file_named files name ≡ file_named all name

-- ---- the manifest

-- the manifest's bytes: those of this file, or else those at its path
abbrev pub GivesManifest : KnownFiles → (path : List ℕ) → Option ReplacedFile → (bytes : List ℕ)
    → Type 0
GivesManifest known path (Some file) bytes = bytes ≡ bytes_then true file
GivesManifest known path None bytes = Gives (regular_files known) path (Some bytes)

-- the manifest at a path, gathered with its files, of which these are as steps left them
pub record IsCollectedWith (known : KnownFiles) (path : List ℕ) (files : List ReplacedFile)
    (c : CollectedManifest) : Type 0 where
  pub given : GivesManifest known path (file_named files (codes "current.toml")) c.bytes.items
  pub are_sources : AreSources (files_then true files (files_in_folder known path)) []
      c.bytes.items c.sources
