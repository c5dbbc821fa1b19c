-- What the parts of the decoder pass to one another: the halves of an instruction, and the rule
-- that they break.
use Rattle.std.specs.Prelude.{◌≡◌, ℕ, ◌<◌, List, Option}
use Rattle.bpf_insn.specs.declared.insn.Insn.{Insn}
use Rattle.bpf_insn.specs.declared.operand.Operand.{Operand}
use Rattle.bpf_insn.specs.declared.form.Source.{Source}
use Rattle.bpf_insn.specs.declared.form.Form.{Form}
use Rattle.bpf_insn.specs.declared.fields.Fields.{Fields}
use Rattle.bpf_insn.specs.declared.fields.InsnFault.{InsnFault}
use Rattle.bpf_insn.specs.declared.fields.InsnFault.TheVariants.{Register, UnusedField}
use Rattle.bpf_insn.specs.Table.{opcode_of, row_of}
use Rattle.bpf_insn.specs.Faults.{Keeps, fault_number}
use Rattle.bpf_insn.specs.Spelling.{form_of, fields_of, second_of, IsEncodable, IsFields}
use Rattle.bpf_insn.specs.Spelling.{source_of, src_field, imm_field, Spells, HasFault}

-- an instruction with this row and these halves
pub record HasHalves (form : Form) (first : Fields) (second : Option Fields) (i : Insn) :
    Type 0 where
  pub fits : IsEncodable i
  pub form_is : form_of i ≡ form
  pub first_is : fields_of i ≡ first
  pub second_is : second_of i ≡ second

-- the fields belong to this row, and to no other
pub record IsOfRow (form : Form) (f : Fields) : Type 0 where
  pub fits : IsFields f
  pub opcode : opcode_of form ≡ f.opcode
  pub only : (other : Form) → opcode_of other ≡ f.opcode → form ≡ other

-- the same, with valid registers, and 0 in each field that the row doesn't use
pub record IsInOrder (form : Form) (f : Fields) : Type 0 where
  pub fits : IsFields f
  pub opcode : opcode_of form ≡ f.opcode
  pub registers : Keeps (row_of form) f Register
  pub unused : Keeps (row_of form) f UnusedField

-- the second operand of these fields
pub record IsOperand (source : Source) (f : Fields) (o : Operand) : Type 0 where
  pub source_is : source_of o ≡ source
  pub src_is : src_field o ≡ f.src
  pub imm_is : imm_field o ≡ f.imm

-- the rule with the lowest number, among those that the fields of a row break
pub record IsRowFault (form : Form) (f : Fields) (e : InsnFault) : Type 0 where
  pub breaks : ¬ Keeps (row_of form) f e
  pub lowest : (other : InsnFault) → fault_number other < fault_number e
      → Keeps (row_of form) f other

-- the only instruction with this row and these halves
pub record IsTheInsn (form : Form) (first : Fields) (second : Option Fields) (i : Insn) :
    Type 0 where
  pub has : HasHalves form first second i
  pub only : (j : Insn) → HasHalves form first second j → i ≡ j

-- bytes that spell an instruction have no fault
abbrev pub SpellsOrHasFault : List ℕ → ℕ → Type 0
SpellsOrHasFault bytes slot =
    (i : Insn) (e : InsnFault) → Spells bytes slot i → ¬ HasFault bytes slot e

-- the only instruction that the bytes from this slot spell
pub record IsOnlySpelling (bytes : List ℕ) (slot : ℕ) (i : Insn) : Type 0 where
  pub spells : Spells bytes slot i
  pub only : (j : Insn) → Spells bytes slot j → i ≡ j
