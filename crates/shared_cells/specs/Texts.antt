-- The text of the fault, as it is printed.
use Rattle.std.specs.Prelude.{ℕ, List, codes}
use Rattle.shared_cells.specs.declared.shared_fault.SharedFault.{SharedFault}
use Rattle.shared_cells.specs.declared.shared_fault.SharedFault.TheVariants.{Memory}

abbrev pub shared_text : SharedFault → List ℕ
shared_text Memory = codes "S1 Memory"
