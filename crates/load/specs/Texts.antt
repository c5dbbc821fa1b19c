-- The printed texts of why a manifest gives no ruleset. Arrays and apps are numbered from 1.
use Rattle.std.specs.Prelude.{ℕ, List, ◌++◌, codes, decimal}
use Rattle.bounded_files.specs.Texts.{resource_text}
use Rattle.cells.specs.Texts.{cells_fault_text}
use Rattle.acceptance.specs.Texts.{program_fault_text, rule_refusal_text}
use Rattle.manifest.specs.Texts.{manifest_fault_text}
use Rattle.load.specs.declared.load_fault.LoadFault.{LoadFault}
use Rattle.load.specs.declared.load_fault.LoadFault.TheVariants.{Manifest, File, Program, Rule}
use Rattle.load.specs.declared.load_fault.LoadFault.TheVariants.{Cells, Memory}
use Rattle.load.specs.declared.load_fault.PathFault.{PathFault}
use Rattle.load.specs.declared.load_fault.PathFault.TheVariants.{Resource, Load}

abbrev pub load_fault_text : LoadFault → List ℕ
load_fault_text (Manifest fault) = manifest_fault_text fault
load_fault_text (File app) = codes "M4 File in app " ++ decimal app
load_fault_text (Program app fault) =
    codes "M5 Program " ++ program_fault_text fault ++ codes " in app " ++ decimal app
load_fault_text (Rule app fault) =
    codes "M6 Rule " ++ rule_refusal_text fault ++ codes " in app " ++ decimal app
load_fault_text (Cells array fault) =
    codes "M7 Cells " ++ cells_fault_text fault ++ codes " in array " ++ decimal array
load_fault_text Memory = codes "M8 Memory"

abbrev pub path_fault_text : PathFault → List ℕ
path_fault_text (Resource fault) = resource_text fault
path_fault_text (Load fault) = load_fault_text fault
