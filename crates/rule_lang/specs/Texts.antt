-- The printed texts of a rule's faults.
use Rattle.std.specs.Prelude.{ℕ, List, ◌++◌, codes, decimal}
use Rattle.rule_lang.specs.declared.rule_fault.RuleFault.{RuleFault}
use Rattle.rule_lang.specs.declared.rule_fault.RuleFault.TheVariants as rule
use Rattle.rule_lang.specs.declared.rule_fault.RuleFaultKind.{RuleFaultKind}
use Rattle.rule_lang.specs.declared.rule_fault.RuleFaultKind.TheVariants as kind

abbrev pub rule_kind_text : RuleFaultKind → List ℕ
rule_kind_text kind.Token = codes "L1 Token"
rule_kind_text kind.Shape = codes "L2 Shape"
rule_kind_text kind.Name = codes "L3 Name"
rule_kind_text kind.Range = codes "L4 Range"

abbrev pub rule_fault_text : RuleFault → List ℕ
rule_fault_text (rule.At number kind) = rule_kind_text kind ++ codes " at line " ++ decimal number
rule_fault_text rule.Memory = codes "L5 Memory"
