-- The texts of faults, as they are printed: a code, a name, and a place.
use Rattle.std.specs.Prelude.{ℕ, List, ◌++◌, codes}
use Rattle.std.specs.Fmt.{decimal}
use Rattle.bpf_insn.specs.Faults.{fault_text}
use Rattle.bpf_text.specs.declared.text_fault.AsmFaultKind.{AsmFaultKind}
use Rattle.bpf_text.specs.declared.text_fault.AsmFaultKind.TheVariants as kind
use Rattle.bpf_text.specs.declared.text_fault.AsmFault.{AsmFault}
use Rattle.bpf_text.specs.declared.text_fault.AsmFault.TheVariants.{At, Memory}
use Rattle.bpf_text.specs.declared.text_fault.ListFault.{ListFault}
use Rattle.bpf_text.specs.declared.text_fault.ListFault.TheVariants as list_fault

-- ---- a text that doesn't assemble

abbrev pub kind_text : AsmFaultKind → List ℕ
kind_text kind.Token = codes "A1 Token"
kind_text kind.Mnemonic = codes "A2 Mnemonic"
kind_text kind.Operand = codes "A3 Operand"
kind_text kind.Label = codes "A4 Label"
kind_text kind.Range = codes "A5 Range"
kind_text kind.TooLong = codes "A6 TooLong"

abbrev pub asm_fault_text : AsmFault → List ℕ
asm_fault_text (At line e) = kind_text e ++ codes " at line " ++ decimal line
asm_fault_text Memory = codes "A7 Memory"

-- ---- bytes that have no listing

abbrev pub list_fault_text : ListFault → List ℕ
list_fault_text (list_fault.Insn slot e) = fault_text e ++ codes " at slot " ++ decimal slot
list_fault_text list_fault.Memory = codes "Memory"
