-- The texts of the graph's faults, as they are printed.
use Rattle.std.specs.Prelude.{ℕ, List, ◌++◌, codes, decimal}
use Rattle.bpf_insn.specs.Faults.{fault_text}
use Rattle.flow_check.specs.declared.flow_fault.FlowFault.{FlowFault}
use Rattle.flow_check.specs.declared.flow_fault.FlowFault.TheVariants as check
use Rattle.flow_check.specs.declared.flow_fault.FlowRule.{FlowRule}
use Rattle.flow_check.specs.declared.flow_fault.FlowRule.TheVariants as flow

abbrev pub flow_rule_text : FlowRule → List ℕ
flow_rule_text flow.BackJump = codes "F1 BackJump"
flow_rule_text flow.Outside = codes "F2 Outside"
flow_rule_text flow.InsideWide = codes "F3 InsideWide"
flow_rule_text flow.FallsOff = codes "F4 FallsOff"
flow_rule_text flow.Unreached = codes "F5 Unreached"
flow_rule_text flow.Empty = codes "F6 Empty"
flow_rule_text flow.TooLong = codes "F7 TooLong"
flow_rule_text (flow.Insn fault) = codes "F8 Insn " ++ fault_text fault

abbrev pub flow_fault_text : FlowFault → List ℕ
flow_fault_text (check.Rule slot rule) = flow_rule_text rule ++ codes " at slot " ++ decimal slot
flow_fault_text check.Memory = codes "F9 Memory"
