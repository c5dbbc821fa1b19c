-- The load of a manifest and its files: a ruleset, and the directory in which the manifest's arrays
-- are declared; or the first fault. The order is M1, M2, M3, M7, and then app by app M4, M5 or M6.
use Rattle.std.specs.Prelude.{◌≡◌, ◌≢◌, ℕ, List, Result, Ok, Err}
use Rattle.cells.specs.Directory.{Declaration}
use Rattle.cells.specs.declared.array.ArrayNo.{ArrayNo}
use Rattle.cells.specs.declared.array.CellArray.{CellArray}
use Rattle.cells.specs.declared.cells_fault.CellsFault.TheVariants as cells
use Rattle.declarations.specs.Order.{AreDeclared, IsRefusedArray}
use Rattle.manifest.specs.Manifest.{Manifest, ReadsManifest}
use Rattle.ruleset.specs.Rules.{Rules}
use Rattle.load.specs.declared.load_fault.LoadFault.{LoadFault}
use Rattle.load.specs.declared.load_fault.LoadFault.TheVariants.{Manifest as NoManifest, Cells}
use Rattle.load.specs.declared.load_fault.LoadFault.TheVariants.{Memory}
use Rattle.bounded_files.specs.Files.{KnownFiles}
use Rattle.load.specs.Apps.{AreAppsOf, RefusesApps}

-- why bytes aren't a manifest; running out of memory is always allowed, here and below
abbrev pub RefusesManifest : List ℕ → LoadFault → Type 0
RefusesManifest bytes (NoManifest fault) = ReadsManifest bytes (Err fault)
RefusesManifest bytes Memory = Unit {0}
RefusesManifest bytes fault = ⊥

-- the first array of a manifest that can't be declared
abbrev pub RefusesArrays : List CellArray → List Declaration → LoadFault → Type 0
RefusesArrays old arrays (Cells number fault) =
    (between : List CellArray) × IsRefusedArray old arrays number fault between
    × (fault ≢ cells.Memory)
RefusesArrays old arrays Memory = Unit {0}
RefusesArrays old arrays fault = ⊥

module _ (known : KnownFiles) (old : List CellArray) (bytes : List ℕ) where
  -- the fault that counts: that of the bytes, or else of the arrays, or else of the apps
  pub data IsLoadFault : LoadFault → Type 0 where
    of_bytes : {fault : LoadFault} → RefusesManifest bytes fault → IsLoadFault fault
    of_arrays : {manifest : Manifest} {fault : LoadFault} → ReadsManifest bytes (Ok manifest)
        → RefusesArrays old manifest.arrays fault → IsLoadFault fault
    of_apps : {manifest : Manifest} (numbers : List ArrayNo) (between : List CellArray)
        {fault : LoadFault} → ReadsManifest bytes (Ok manifest)
        → AreDeclared old manifest.arrays numbers between
        → RefusesApps known between numbers manifest.apps fault → IsLoadFault fault

  -- the ruleset of the bytes, and the directory after it
  pub record IsRulesetOf (rules : Rules) (new : List CellArray) : Type 0 where
    pub manifest : Manifest
    pub read : ReadsManifest bytes (Ok manifest)
    pub numbers : List ArrayNo
    pub declared : AreDeclared old manifest.arrays numbers new
    pub server_is : rules.server ≡ manifest.server
    pub apps_are : AreAppsOf known new numbers manifest.apps rules.apps

  abbrev pub LoadsOver : Result (Rules × List CellArray) LoadFault → Type 0
  LoadsOver (Ok loaded) = IsRulesetOf loaded.0 loaded.1
  LoadsOver (Err fault) = IsLoadFault fault

  -- after a refusal the directory is unchanged
  abbrev pub Loads : Result Rules LoadFault → List CellArray → Type 0
  Loads (Ok rules) new = IsRulesetOf rules new
  Loads (Err fault) new = IsLoadFault fault × (new ≡ old)
