-- The texts of the faults.
use Rattle.std.specs.Prelude.{ℕ, List, codes}
use Rattle.bounded_files.specs.declared.resource_fault.ResourceFault.{ResourceFault}
use Rattle.bounded_files.specs.declared.resource_fault.ResourceFault.TheVariants.{File, Memory}

abbrev pub resource_text : ResourceFault → List ℕ
resource_text File = codes "B3 File"
resource_text Memory = codes "B4 Memory"
