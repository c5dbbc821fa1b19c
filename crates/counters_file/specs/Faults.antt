-- The texts of the faults.
use Rattle.std.specs.Prelude.{ℕ, List, ◌++◌, codes}
use Rattle.std.specs.Fmt.{decimal}
use Rattle.counters_file.specs.declared.counters_fault.CountersFault.{CountersFault}
use Rattle.counters_file.specs.declared.counters_fault.CountersFault.TheVariants.{InUse, File}
use Rattle.counters_file.specs.declared.counters_fault.CountersFault.TheVariants.{Damaged, Store}
use Rattle.counters_file.specs.declared.counters_fault.CountersFault.TheVariants.{Memory}

abbrev pub fault_text : CountersFault → List ℕ
fault_text InUse = codes "K1 InUse"
fault_text File = codes "K2 File"
fault_text (Damaged line) = codes "K3 Damaged at line " ++ decimal line
fault_text Store = codes "K4 Store"
fault_text Memory = codes "B4 Memory"
