-- The printed texts of the faults.
use Rattle.std.specs.Prelude.{ℕ, List}
use Rattle.bpf_checks.specs.Texts.{verifier_refusal_text}
use Rattle.flow_check.specs.Texts.{flow_fault_text}
use Rattle.rule_lang.specs.Texts.{rule_fault_text}
use Rattle.rule_compile.specs.Texts.{compile_fault_text}
use Rattle.acceptance.specs.declared.program_fault.ProgramFault.{ProgramFault}
use Rattle.acceptance.specs.declared.program_fault.ProgramFault.TheVariants.{Flow, Verify}
use Rattle.acceptance.specs.declared.program_fault.RuleTextFault.{RuleTextFault}
use Rattle.acceptance.specs.declared.program_fault.RuleTextFault.TheVariants.{Text, Compile}

abbrev pub program_fault_text : ProgramFault → List ℕ
program_fault_text (Flow fault) = flow_fault_text fault
program_fault_text (Verify refusal) = verifier_refusal_text refusal

abbrev pub rule_refusal_text : RuleTextFault → List ℕ
rule_refusal_text (Text fault) = rule_fault_text fault
rule_refusal_text (Compile fault) = compile_fault_text fault
