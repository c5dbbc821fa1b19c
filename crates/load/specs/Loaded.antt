-- The load of the manifest at a path, with the files of its folder. Anything but a regular file
-- counts as unreadable. If nothing is known of the files (those of a device), it is the load of
-- some manifest and files.
use Rattle.std.specs.Prelude.{ℕ, List, Some, None, Result, Ok, Err}
use Rattle.cells.specs.declared.array.CellArray.{CellArray}
use Rattle.bounded_files.specs.Files.{KnownFiles, Gives, regular_files}
use Rattle.bounded_files.specs.declared.resource_fault.ResourceFault.TheVariants.{File, Memory}
use Rattle.load.specs.Folder.{files_in_folder}
use Rattle.load.specs.Load.{IsRulesetOf, IsLoadFault}
use Rattle.load.specs.declared.load_fault.PathFault.{PathFault}
use Rattle.load.specs.declared.load_fault.PathFault.TheVariants.{Resource, Load}
use Rattle.ruleset.specs.Rules.{Rules}

module _ (known : KnownFiles) (path : List ℕ) (old : List CellArray) where
  -- the ruleset of the file's bytes, and the directory after it
  pub record IsLoadedFrom (rules : Rules) (new : List CellArray) : Type 0 where
    pub bytes : List ℕ
    pub given : Gives (regular_files known) path (Some bytes)
    pub loaded : IsRulesetOf (files_in_folder known path) old bytes rules new

  -- the file can't be read, or its bytes give no ruleset; running out of memory is always allowed
  abbrev pub RefusesPath : PathFault → Type 0
  RefusesPath (Resource File) = Gives (regular_files known) path None
  RefusesPath (Resource Memory) = Unit {0}
  RefusesPath (Load fault) =
      (bytes : List ℕ) × Gives (regular_files known) path (Some bytes)
      × IsLoadFault (files_in_folder known path) old bytes fault

  abbrev pub LoadsFrom : Result (Rules × List CellArray) PathFault → Type 0
  LoadsFrom (Ok loaded) = IsLoadedFrom loaded.0 loaded.1
  LoadsFrom (Err fault) = RefusesPath fault
