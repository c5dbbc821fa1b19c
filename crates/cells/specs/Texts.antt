-- The printed texts of the faults.
use Rattle.std.specs.Prelude.{ℕ, List, codes}
use Rattle.cells.specs.declared.cells_fault.CellsFault.{CellsFault}
use Rattle.cells.specs.declared.cells_fault.CellsFault.TheVariants.{CellsFull, Redefined, Memory}

abbrev pub cells_fault_text : CellsFault → List ℕ
cells_fault_text CellsFull = codes "N1 CellsFull"
cells_fault_text Redefined = codes "N2 Redefined"
cells_fault_text Memory = codes "N3 Memory"
