-- The manifest as before a step, and its files, of which the step's are as before it.
use Rattle.std.specs.Prelude.{◌≡◌, ℕ, List, [], codes, true, false, Option, Some, None}
use Rattle.bounded_files.specs.Files.{Gives, KnownFiles, regular_files}
use Rattle.bounded_files.specs.declared.resource_fault.ResourceFault.TheVariants.{File, Memory}
use Rattle.load.specs.Folder.{files_in_folder}
use Rattle.load.specs.Load.{IsLoadFault}
use Rattle.load.specs.Loaded.{RefusesPath}
use Rattle.load.specs.Sources.{AreSources}
use Rattle.load.specs.declared.load_fault.PathFault.{PathFault}
use Rattle.load.specs.declared.load_fault.PathFault.TheVariants.{Load, Resource}
use Rattle.load.specs.declared.opened.CollectedManifest.{CollectedManifest}
use Rattle.stage_records.specs.Steps.{ReplacedFile}
use Rattle.stage_servers.specs.Gathered.{precedes_files}
use Rattle.stage_servers.specs.Replaced.{bytes_then, file_named, files_then}

-- the bytes of the manifest in place, as before a step
abbrev pub GivesBefore : KnownFiles → (current : List ℕ) → Option ReplacedFile → (bytes : List ℕ)
    → Type 0
GivesBefore known current (Some file) bytes = bytes ≡ bytes_then false file
GivesBefore known current None bytes = Gives (regular_files known) current (Some bytes)

-- the manifest as before a step, gathered with its files
pub record WasCollected (known : KnownFiles) (current : List ℕ) (replaced : List ReplacedFile)
    (c : CollectedManifest) : Type 0 where
  pub given : GivesBefore known current (file_named replaced (codes "current.toml")) c.bytes.items
  pub are_sources : AreSources (files_then false replaced (files_in_folder known current)) []
      c.bytes.items c.sources

-- ---- manifests that can't be gathered

-- why the manifest as before a step can't be gathered; running out of memory is always allowed
abbrev pub RefusesBefore : KnownFiles → (current : List ℕ) → PathFault → Option ReplacedFile
    → Type 0
RefusesBefore known current (Resource Memory) file = Unit {0}
RefusesBefore known current fault None = RefusesPath known current [] fault
RefusesBefore known current (Resource File) (Some file) = ⊥
RefusesBefore known current (Load fault) (Some file) =
    IsLoadFault (files_in_folder known current) [] (bytes_then false file) fault

-- the manifest as before a step, gathered with its files; none if it can't be
abbrev pub WasGathered : KnownFiles → (current : List ℕ) → List ReplacedFile
    → Option CollectedManifest → Type 0
WasGathered known current replaced (Some manifest) = WasCollected known current replaced manifest
WasGathered known current replaced None = (fault : PathFault)
    × RefusesBefore known current fault (file_named replaced (codes "current.toml"))
    × (precedes_files fault ≡ true)
