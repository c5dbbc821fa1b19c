-- The texts of why a text isn't a script.
use Rattle.std.specs.Prelude.{ℕ, List, ◌++◌, codes, decimal}
use Rattle.event_script.specs.declared.script_fault.ScriptFault.{ScriptFault}
use Rattle.event_script.specs.declared.script_fault.ScriptFault.TheVariants.{Malformed, Memory}

abbrev pub script_fault_text : ScriptFault → List ℕ
script_fault_text (Malformed number) = codes "B2 Script at line " ++ decimal number
script_fault_text Memory = codes "Memory"
