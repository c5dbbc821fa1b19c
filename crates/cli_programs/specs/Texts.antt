-- The texts of refusals.
use Rattle.std.specs.Prelude.{ℕ, List}
use Rattle.bounded_files.specs.Texts.{resource_text}
use Rattle.cells.specs.Texts.{cells_fault_text}
use Rattle.bpf_text.specs.Faults.{asm_fault_text, list_fault_text}
use Rattle.acceptance.specs.Texts.{program_fault_text, rule_refusal_text}
use Rattle.cli_programs.specs.declared.program_tool_fault.ProgramToolFault.{ProgramToolFault}
use Rattle.cli_programs.specs.declared.program_tool_fault.ProgramToolFault.TheVariants as tool

abbrev pub fault_text : ProgramToolFault → List ℕ
fault_text (tool.Resource fault) = resource_text fault
fault_text (tool.Arrays fault) = cells_fault_text fault
fault_text (tool.Text fault) = asm_fault_text fault
fault_text (tool.Rule fault) = rule_refusal_text fault
fault_text (tool.Bytes fault) = list_fault_text fault
fault_text (tool.Program fault) = program_fault_text fault
