-- The printed texts of the faults.
use Rattle.std.specs.Prelude.{ℕ, List, codes}
use Rattle.rule_compile.specs.declared.compile_fault.CompileFault.{CompileFault}
use Rattle.rule_compile.specs.declared.compile_fault.CompileFault.TheVariants.{TooLong, Memory}

abbrev pub compile_fault_text : CompileFault → List ℕ
compile_fault_text TooLong = codes "C1 TooLong"
compile_fault_text Memory = codes "C2 Memory"
