-- Loads of a replay: those that give no ruleset, and those that lines share.
use Rattle.std.specs.Prelude.{ℕ, List, All}
use Rattle.std.specs.Arc.{arc_value}
use Rattle.cells.specs.declared.array.CellArray.{CellArray}
use Rattle.bounded_files.specs.Files.{KnownFiles}
use Rattle.bounded_files.specs.declared.resource_fault.ResourceFault.TheVariants.{Memory}
use Rattle.load.specs.Loaded.{IsLoadedFrom, RefusesPath}
use Rattle.replay.specs.declared.replay_fault.ReplayFault.{ReplayFault}
use Rattle.replay.specs.declared.replay_fault.ReplayFault.TheVariants.{Resource, Manifest}
use Rattle.replay.specs.declared.shared.SharedLoad.{SharedLoad}

-- running out of memory is always allowed, here and below
abbrev pub GivesNoRuleset : KnownFiles → List ℕ → List CellArray → ReplayFault → Type 0
GivesNoRuleset known path old (Manifest fault) = RefusesPath known path old fault
GivesNoRuleset known path old (Resource Memory) = Unit {0}
GivesNoRuleset known path old fault = ⊥

-- the load gives its ruleset in this directory, and declares no array
abbrev pub IsShared : KnownFiles → List CellArray → SharedLoad → Type 0
IsShared known directory load =
    IsLoadedFrom known load.path directory (arc_value load.rules) directory

abbrev pub AreShared : KnownFiles → List CellArray → List SharedLoad → Type 0
AreShared known directory loads = All (IsShared known directory) loads
