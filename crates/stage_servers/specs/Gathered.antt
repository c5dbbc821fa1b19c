-- The manifest in place, which may not be one that can be gathered with its files.
use Rattle.std.specs.Prelude.{◌≡◌, ℕ, List, [], Bool, true, false, Option, Some, None}
use Rattle.bounded_files.specs.Files.{KnownFiles}
use Rattle.bounded_files.specs.declared.resource_fault.ResourceFault.TheVariants.{File}
use Rattle.load.specs.Loaded.{RefusesPath}
use Rattle.load.specs.Opened.{IsCollected}
use Rattle.load.specs.declared.load_fault.LoadFault.TheVariants.{Cells, Manifest as NoManifest}
use Rattle.load.specs.declared.load_fault.PathFault.{PathFault}
use Rattle.load.specs.declared.load_fault.PathFault.TheVariants.{Load, Resource}
use Rattle.load.specs.declared.opened.CollectedManifest.{CollectedManifest}

-- a fault that no app's file decides: the manifest can't be read, isn't one, or has an array that
-- can't be declared
abbrev pub precedes_files : PathFault → Bool
precedes_files (Resource File) = true
precedes_files (Load (NoManifest fault)) = true
precedes_files (Load (Cells array fault)) = true
precedes_files fault = false

-- the manifest in place, gathered with its files; none if it can't be, whatever its files have
abbrev pub IsGathered : KnownFiles → (current : List ℕ) → Option CollectedManifest → Type 0
IsGathered known current (Some manifest) = IsCollected known current manifest
IsGathered known current None = (fault : PathFault) × RefusesPath known current [] fault
    × (precedes_files fault ≡ true)
