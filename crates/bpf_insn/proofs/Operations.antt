-- An arithmetic opcode has one row, and each offset that a row allows belongs to an operation.
use Rattle.std.proofs.Common.{◌≡◌, ◌≢◌, ℕ, ◌+◌, ◌*◌, ◌/◌, ◌%◌, ◌<◌}
use Rattle.std.proofs.Common.{ℤ, pos, false, inl, inr, Some, refl, sym, ap, ◌∙◌, arith}
use Rattle.std.proofs.lemmas.Option.{same_Some}
use Rattle.bpf_insn.specs.declared.operand.AluOp.{AluOp}
use Rattle.bpf_insn.specs.declared.operand.AluOp.TheVariants as alu
use Rattle.bpf_insn.specs.declared.operand.Bits.{Bits}
use Rattle.bpf_insn.specs.declared.operand.Bits.TheVariants.{Bits64, Bits32}
use Rattle.bpf_insn.specs.declared.operand.ByteOrder.{ByteOrder}
use Rattle.bpf_insn.specs.declared.operand.ByteOrder.TheVariants.{Little, Big, Swap}
use Rattle.bpf_insn.specs.declared.form.AluCode.{AluCode}
use Rattle.bpf_insn.specs.declared.form.AluCode.TheVariants as code
use Rattle.bpf_insn.specs.declared.form.Source.{Source}
use Rattle.bpf_insn.specs.declared.form.Source.TheVariants.{K, X}
use Rattle.bpf_insn.specs.declared.form.Form.{Form}
use Rattle.bpf_insn.specs.declared.form.Form.TheVariants as row
use Rattle.bpf_insn.specs.declared.fields.Fields.{Fields}
use Rattle.bpf_insn.specs.declared.fields.InsnFault.{InsnFault}
use Rattle.bpf_insn.specs.declared.fields.InsnFault.TheVariants.{Truncated, Opcode}
use Rattle.bpf_insn.specs.declared.fields.InsnFault.TheVariants.{Register, UnusedField}
use Rattle.bpf_insn.specs.declared.fields.InsnFault.TheVariants.{Imm, Offset, SecondHalf}
use Rattle.bpf_insn.specs.Table.{opcode_of, row_of, code_number, source_bit}
use Rattle.bpf_insn.specs.Table.{alu_class, end_opcode, alu_offset, imm_use, IsAluOp}
use Rattle.bpf_insn.specs.Faults.{Keeps, AllowsImm, AllowsOffset, fault_number, uses_offset}
use Rattle.bpf_insn.specs.Halves.{IsInOrder, IsRowFault}

-- ---- the row of an opcode

record HasParts (opcode number bit class : ℕ) : Type 0 where
  number_is : opcode / 16 ≡ number
  bit_is : opcode / 8 % 2 ≡ bit
  class_is : opcode % 8 ≡ class

parts_of : (n : ℕ) (s : Source) (bits : Bits)
    → HasParts (n * 16 + source_bit s * 8 + alu_class bits) n (source_bit s) (alu_class bits)
parts_of n K Bits64 =
    record { number_is = omega arith; bit_is = omega arith; class_is = omega arith }
parts_of n K Bits32 =
    record { number_is = omega arith; bit_is = omega arith; class_is = omega arith }
parts_of n X Bits64 =
    record { number_is = omega arith; bit_is = omega arith; class_is = omega arith }
parts_of n X Bits32 =
    record { number_is = omega arith; bit_is = omega arith; class_is = omega arith }

same_bits : (a b : Bits) → alu_class a ≡ alu_class b → a ≡ b
same_bits Bits64 Bits64 e = refl
same_bits Bits32 Bits32 e = refl
same_bits Bits64 Bits32 e = absurd (omega (arith, e))
same_bits Bits32 Bits64 e = absurd (omega (arith, e))

same_source : (s t : Source) → source_bit s ≡ source_bit t → s ≡ t
same_source K K e = refl
same_source X X e = refl
same_source K X e = absurd (omega (arith, e))
same_source X K e = absurd (omega (arith, e))

-- NEG, MOV and END have codes of their own
not_alu : (c : AluCode) (n : ℕ) → code_number c ≡ n → (n ≢ 0x8) × (n ≢ 0xb) × (n ≢ 0xd)
not_alu code.Add n e = grind arith
not_alu c n e = grind arith

neg_number : (bits : Bits) → (0x8 * 16 + alu_class bits) / 16 ≡ 0x8
neg_number Bits64 = refl
neg_number Bits32 = refl

end_number : (order : ByteOrder) → end_opcode order / 16 ≡ 0xd
end_number Little = refl
end_number Big = refl
end_number Swap = refl

pub only_alu : (opcode : ℕ) (bits : Bits) (c : AluCode) (s : Source)
    → opcode % 8 ≡ alu_class bits → source_bit s ≡ opcode / 8 % 2 → code_number c ≡ opcode / 16
    → ((d : AluCode) → code_number d ≡ opcode / 16 → Some c ≡ Some d)
    → (form : Form) → opcode_of form ≡ opcode → Some (row.Alu bits c s) ≡ Some form
only_alu opcode bits c s class bit number only (row.Alu b d t) e =
    let parts = parts_of (code_number d) t b in
    let first : bits ≡ b =
    same_bits bits b (sym class ∙ ap (λ n. n % 8) (sym e) ∙ parts.class_is) in
    let second : c ≡ d =
    same_Some c d (only d (sym parts.number_is ∙ ap (λ n. n / 16) e)) in
    let third : s ≡ t =
    same_source s t (bit ∙ ap (λ n. n / 8 % 2) (sym e) ∙ parts.bit_is) in
    ap (λ (x : Bits). Some (row.Alu x c s)) first
    ∙ ap (λ (x : AluCode). Some (row.Alu b x s)) second
    ∙ ap (λ (x : Source). Some (row.Alu b d x)) third
only_alu opcode bits c s class bit number only (row.Mov b t) e =
    absurd ((not_alu c (opcode / 16) number).1
    (ap (λ n. n / 16) (sym e) ∙ (parts_of 0xb t b).number_is))
only_alu opcode bits c s class bit number only (row.Neg b) e =
    absurd ((not_alu c (opcode / 16) number).0 (ap (λ n. n / 16) (sym e) ∙ neg_number b))
only_alu opcode bits c s class bit number only (row.End order) e =
    absurd ((not_alu c (opcode / 16) number).2 (ap (λ n. n / 16) (sym e) ∙ end_number order))
only_alu opcode Bits64 c s class bit number only form e = absurd (grind (arith, class, e))
only_alu opcode Bits32 c s class bit number only form e = absurd (grind (arith, class, e))

-- ---- the operation of a row

-- each offset that the row of a code allows belongs to an operation
op_of : (c : AluCode) (z : ℤ) → (uses_offset (alu_offset c) ≡ false → z ≡ pos 0)
    → AllowsOffset (alu_offset c) z → (op : AluOp) × IsAluOp c z op
op_of code.Add z unused h = (alu.Add, (refl, sym (unused refl)))
op_of code.Sub z unused h = (alu.Sub, (refl, sym (unused refl)))
op_of code.Mul z unused h = (alu.Mul, (refl, sym (unused refl)))
op_of code.Div z unused (inl e) = (alu.Div, (refl, sym e))
op_of code.Div z unused (inr e) = (alu.Sdiv, (refl, sym e))
op_of code.Or z unused h = (alu.Or, (refl, sym (unused refl)))
op_of code.And z unused h = (alu.And, (refl, sym (unused refl)))
op_of code.Lsh z unused h = (alu.Lsh, (refl, sym (unused refl)))
op_of code.Rsh z unused h = (alu.Rsh, (refl, sym (unused refl)))
op_of code.Mod z unused (inl e) = (alu.Mod, (refl, sym e))
op_of code.Mod z unused (inr e) = (alu.Smod, (refl, sym e))
op_of code.Xor z unused h = (alu.Xor, (refl, sym (unused refl)))
op_of code.Arsh z unused h = (alu.Arsh, (refl, sym (unused refl)))

any_imm : (s : Source) (z : ℤ) → AllowsImm (imm_use s) z
any_imm K z = tt
any_imm X z = tt

pub alu_fault : (bits : Bits) (c : AluCode) (s : Source) (f : Fields)
    → IsInOrder (row.Alu bits c s) f → ((op : AluOp) → ¬ IsAluOp c f.offset op)
    → IsRowFault (row.Alu bits c s) f Offset
alu_fault bits c s f order none = record {
  breaks = λ h. let found = op_of c f.offset order.unused.offset h in none found.0 found.1;
  lowest = lower;
}
  where
    lower : (other : InsnFault) → fault_number other < 6
        → Keeps (row_of (row.Alu bits c s)) f other
    lower Truncated low = tt
    lower Opcode low = tt
    lower Register low = order.registers
    lower UnusedField low = order.unused
    lower Imm low = any_imm s f.imm
    lower Offset low = absurd (omega arith)
    lower SecondHalf low = absurd (omega arith)
