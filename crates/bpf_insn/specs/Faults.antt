-- The rules for the fields of a half, one for each fault, and the texts of faults.
use Rattle.std.specs.Prelude.{◌≡◌, ℕ, ◌≤◌, ◌⊎◌, ℤ, pos, List, Bool, true, false, codes}
use Rattle.bpf_insn.specs.declared.operand.AtomicOp.{AtomicOp}
use Rattle.bpf_insn.specs.declared.operand.EndSize.{EndSize}
use Rattle.bpf_insn.specs.declared.operand.Extension.{Extension}
use Rattle.bpf_insn.specs.declared.form.WideSource.{WideSource}
use Rattle.bpf_insn.specs.declared.form.SrcField.{SrcField}
use Rattle.bpf_insn.specs.declared.form.SrcField.TheVariants as src
use Rattle.bpf_insn.specs.declared.form.OffsetField.{OffsetField}
use Rattle.bpf_insn.specs.declared.form.OffsetField.TheVariants as offset
use Rattle.bpf_insn.specs.declared.form.ImmField.{ImmField}
use Rattle.bpf_insn.specs.declared.form.ImmField.TheVariants as imm
use Rattle.bpf_insn.specs.declared.form.Row.{Row}
use Rattle.bpf_insn.specs.declared.fields.Fields.{Fields}
use Rattle.bpf_insn.specs.declared.fields.InsnFault.{InsnFault}
use Rattle.bpf_insn.specs.declared.fields.InsnFault.TheVariants.{Truncated, Opcode, Register}
use Rattle.bpf_insn.specs.declared.fields.InsnFault.TheVariants.{UnusedField, Imm, Offset}
use Rattle.bpf_insn.specs.declared.fields.InsnFault.TheVariants.{SecondHalf}
use Rattle.bpf_insn.specs.Table.{source_code, end_bits, atomic_code, IsExtension}

-- ---- what a row allows in each field

abbrev pub AllowsDst : Bool → ℕ → Type 0
AllowsDst true n = n ≤ 10
AllowsDst false n = Unit {0}

-- a register, or one of the few numbers that are allowed for CALL and a wide load
abbrev pub AllowsSrc : SrcField → ℕ → Type 0
AllowsSrc src.Unused n = Unit {0}
AllowsSrc src.Register n = n ≤ 10
AllowsSrc src.Callee n = n ≡ 0
AllowsSrc src.WideSource n = (source : WideSource) × (source_code source ≡ n)

-- for END the number of bits that it keeps, for an atomic row the code of an operation
abbrev pub AllowsImm : ImmField → ℤ → Type 0
AllowsImm imm.EndBits z = (size : EndSize) × (pos (end_bits size) ≡ z)
AllowsImm imm.AtomicCode z = (op : AtomicOp) × (pos (atomic_code op) ≡ z)
AllowsImm i z = Unit {0}

-- 0 for DIV and MOD, 1 for the signed operations; 0 for MOV, or the bits that a MOVSX of the class
-- extends
abbrev pub AllowsOffset : OffsetField → ℤ → Type 0
AllowsOffset offset.Sign z = (z ≡ pos 0) ⊎ (z ≡ pos 1)
AllowsOffset (offset.Extension bits) z =
    (z ≡ pos 0) ⊎ ((e : Extension) × IsExtension bits z e)
AllowsOffset o z = Unit {0}

abbrev pub uses_src : SrcField → Bool
uses_src src.Unused = false
uses_src s = true

abbrev pub uses_offset : OffsetField → Bool
uses_offset offset.Unused = false
uses_offset o = true

abbrev pub uses_imm : ImmField → Bool
uses_imm imm.Unused = false
uses_imm i = true

-- a field that the row doesn't use is 0
pub record LeavesUnused (r : Row) (f : Fields) : Type 0 where
  pub dst : r.uses_dst ≡ false → f.dst ≡ 0
  pub src : uses_src r.src ≡ false → f.src ≡ 0
  pub offset : uses_offset r.offset ≡ false → f.offset ≡ pos 0
  pub imm : uses_imm r.imm ≡ false → f.imm ≡ pos 0

-- ---- the rules

-- the rule for one half whose violation is this fault; the other faults don't concern one half
abbrev pub Keeps : Row → Fields → InsnFault → Type 0
Keeps r f Register = AllowsDst r.uses_dst f.dst × AllowsSrc r.src f.src
Keeps r f UnusedField = LeavesUnused r f
Keeps r f Imm = AllowsImm r.imm f.imm
Keeps r f Offset = AllowsOffset r.offset f.offset
Keeps r f fault = Unit {0}

-- a second half: four zeroes, and for a map's index also next_imm 0
pub record IsSecondHalf (source : ℕ) (f : Fields) : Type 0 where
  pub opcode : f.opcode ≡ 0
  pub dst : f.dst ≡ 0
  pub src : f.src ≡ 0
  pub offset : f.offset ≡ pos 0
  pub map : source ≡ 5 → f.imm ≡ pos 0

-- ---- the number and the text of a fault

abbrev pub fault_number : InsnFault → ℕ
fault_number Truncated = 1
fault_number Opcode = 2
fault_number Register = 3
fault_number UnusedField = 4
fault_number Imm = 5
fault_number Offset = 6
fault_number SecondHalf = 7

abbrev pub fault_text : InsnFault → List ℕ
fault_text Truncated = codes "I1 Truncated"
fault_text Opcode = codes "I2 Opcode"
fault_text Register = codes "I3 Register"
fault_text UnusedField = codes "I4 UnusedField"
fault_text Imm = codes "I5 Imm"
fault_text Offset = codes "I6 Offset"
fault_text SecondHalf = codes "I7 SecondHalf"
