-- Arithmetic leads to a represented state.
use Rattle.std.proofs.Common.{◌≡◌, ℕ, ℤ, pos, negsuc, Option}
use Rattle.std.proofs.Common.{Some, false, refl, subst, arith, FitsSigned}
use Rattle.std.specs.Prelude.{◌||◌}
use Rattle.std.specs.Int.{w32}
use Rattle.std.specs.List.{list_any}
use Rattle.std.proofs.lemmas.Int.{ints}
use Rattle.std.proofs.lemmas.Option.{same_Some}
use Rattle.bpf_insn.specs.declared.reg.Reg.{Reg}
use Rattle.bpf_insn.specs.declared.operand.AluOp.{AluOp}
use Rattle.bpf_insn.specs.declared.operand.Bits.{Bits}
use Rattle.bpf_insn.specs.declared.operand.Bits.TheVariants.{Bits64, Bits32}
use Rattle.bpf_insn.specs.declared.operand.ByteOrder.{ByteOrder}
use Rattle.bpf_insn.specs.declared.operand.EndSize.{EndSize}
use Rattle.bpf_insn.specs.declared.operand.Extension.{Extension}
use Rattle.bpf_insn.specs.declared.operand.Operand.{Operand}
use Rattle.bpf_insn.specs.declared.operand.Operand.TheVariants.{Imm, Register}
use Rattle.bpf_insn.specs.declared.insn.Insn.TheVariants.{Alu, Mov, MovSx, Neg, End}
use Rattle.bpf_insn.specs.Table.{number_of}
use Rattle.bpf_insn.specs.Words.{word, immediate}
use Rattle.bpf_insn.specs.Arithmetic.{alu_result, negated, extended, reordered}
use Rattle.cells.specs.Arrays.{AppShape}
use Rattle.bpf_semantics.specs.State.{State, HasWords}
use Rattle.bpf_semantics.specs.Reads.{register, operand, both, only}
use Rattle.bpf_semantics.specs.Step.{act}
use Rattle.abs_value.specs.declared.state.AbsState.{AbsState}
use Rattle.abs_value.specs.Values.{is_unusable, alu_value, copied_value}
use Rattle.abs_value.specs.Values.{negated_value, extended_value, reordered_value}
use Rattle.abs_value.specs.States.{value_of, operand_value}
use Rattle.abs_value.specs.Covers.{IsWord, FitsImm, IsRepresented}
use Rattle.abs_value.specs.Laws.{IsThere}
use Rattle.bpf_checks.specs.Reads.{operand_register}
use Rattle.bpf_checks.specs.Transfer.{edges}
use Rattle.bpf_checks.specs.Sound.{IsSafe}
use Rattle.bpf_checks.proofs.Given.{Given}
use Rattle.bpf_checks.proofs.Passes.{Passes, false_or}
use Rattle.bpf_checks.proofs.Outcomes.{answers, write_safe}

-- ---- operands

pub only_there : (f : ℕ → ℕ) (v : Option ℕ) (a : ℕ) → v ≡ Some a → only f v ≡ Some (f a)
only_there f v a p = rw p refl

pub both_there : {A : Type 0} (f : ℕ → ℕ → A) (v w : Option ℕ) (a b : ℕ)
    → v ≡ Some a → w ≡ Some b → both f v w ≡ Some (f a b)
both_there f v w a b p q = rw (p, q) refl

pub operand_usable : (e : AbsState) (bits : Bits) (src : Operand)
    → list_any (λ r. is_unusable (value_of e r)) (operand_register src) ≡ false
    → is_unusable (operand_value e bits src) ≡ false
operand_usable e bits (Imm k) u = refl
operand_usable e bits (Register r) u = (false_or (is_unusable (value_of e r)) false u).0

pub imm_word : (bits : Bits) (k : ℤ) → FitsSigned w32 k → IsWord (immediate bits k)
imm_word Bits64 (pos n) f = grind (arith, ints)
imm_word Bits64 (negsuc n) f = grind (arith, ints)
imm_word Bits32 (pos n) f = grind (arith, ints)
imm_word Bits32 (negsuc n) f = grind (arith, ints)

pub operand_word : (s : State) (bits : Bits) (src : Operand) (x : ℕ)
    → FitsImm src → HasWords s → operand s bits src ≡ Some x → IsWord x
operand_word s bits (Imm k) x f w is =
    subst IsWord (same_Some (immediate bits k) x is) (imm_word bits k f)
operand_word s bits (Register r) x f w is = w.registers (number_of r) x is

-- ---- the forms

pub alu_safe : (given : Given) (shape : AppShape) (e : AbsState) (s : State) (bits : Bits)
    (op : AluOp) (dst : Reg) (src : Operand) → FitsImm src → HasWords s → IsRepresented shape e s
    → Passes shape e (Alu bits op dst src)
    → IsSafe shape (edges shape s.slot e (Alu bits op dst src)) (act shape s (Alu bits op dst src))
unfolding edges
alu_safe given shape e s bits op dst src f w h ok =
    let u = false_or (is_unusable (value_of e dst))
    (list_any (λ r. is_unusable (value_of e r)) (operand_register src))
    (false_or _ false ok.usable).0 in
    let a = given.registers (answers h) e s (number_of dst) h.covers u.0 in
    let b = given.operands (answers h) e s bits src f h.covers (operand_usable e bits src u.1) in
    write_safe given shape e s 1 dst (alu_value bits op (value_of e dst) (operand_value e bits src))
    _ (alu_result bits op a.number b.number) h ok.frame
    (both_there (alu_result bits op) (register s dst)
    (operand s bits src) a.number b.number a.is b.is)
    (given.results (answers h) bits op (value_of e dst) (operand_value e bits src) a.number b.number
    (w.registers (number_of dst) a.number a.is)
    (operand_word s bits src b.number f w b.is) a.included b.included)

pub mov_safe : (given : Given) (shape : AppShape) (e : AbsState) (s : State) (bits : Bits)
    (dst : Reg) (src : Operand) → FitsImm src → IsRepresented shape e s
    → Passes shape e (Mov bits dst src)
    → IsSafe shape (edges shape s.slot e (Mov bits dst src)) (act shape s (Mov bits dst src))
unfolding edges
mov_safe given shape e s bits dst src f h ok =
    let b = given.operands (answers h) e s bits src f h.covers
    (operand_usable e bits src (false_or _ false ok.usable).0) in
    write_safe given shape e s 1 dst (copied_value bits (operand_value e bits src)) _
    (word bits b.number) h ok.frame
    (only_there (word bits) (operand s bits src) b.number b.is)
    (given.copies (answers h) bits (operand_value e bits src) b.number b.included)

-- the only register that is read
pub alone_there : (given : Given) (shape : AppShape) (e : AbsState) (s : State) (r : Reg)
    (h : IsRepresented shape e s) → ((is_unusable (value_of e r) || false) || false) ≡ false
    → IsThere (answers h) (value_of e r) (register s r)
alone_there given shape e s r h u = given.registers (answers h) e s (number_of r) h.covers
    (false_or _ false (false_or _ false u).0).0

pub movsx_safe : (given : Given) (shape : AppShape) (e : AbsState) (s : State)
    (extension : Extension) (dst src : Reg) → IsRepresented shape e s
    → Passes shape e (MovSx extension dst src)
    → IsSafe shape (edges shape s.slot e (MovSx extension dst src))
    (act shape s (MovSx extension dst src))
unfolding edges
movsx_safe given shape e s extension dst src h ok =
    let a = alone_there given shape e s src h ok.usable in
    write_safe given shape e s 1 dst (extended_value extension (value_of e src)) _
    (extended extension a.number) h ok.frame
    (only_there (extended extension) (register s src) a.number a.is)
    (given.extensions (answers h) extension (value_of e src) a.number a.included)

pub neg_safe : (given : Given) (shape : AppShape) (e : AbsState) (s : State) (bits : Bits)
    (dst : Reg) → HasWords s → IsRepresented shape e s → Passes shape e (Neg bits dst)
    → IsSafe shape (edges shape s.slot e (Neg bits dst)) (act shape s (Neg bits dst))
unfolding edges
neg_safe given shape e s bits dst w h ok =
    let a = alone_there given shape e s dst h ok.usable in
    write_safe given shape e s 1 dst (negated_value bits (value_of e dst)) _
    (negated bits a.number) h ok.frame
    (only_there (negated bits) (register s dst) a.number a.is) (given.negations (answers h) bits
    (value_of e dst) a.number (w.registers (number_of dst) a.number a.is) a.included)

pub end_safe : (given : Given) (shape : AppShape) (e : AbsState) (s : State) (order : ByteOrder)
    (size : EndSize) (dst : Reg) → IsRepresented shape e s → Passes shape e (End order size dst)
    → IsSafe shape (edges shape s.slot e (End order size dst)) (act shape s (End order size dst))
unfolding edges
end_safe given shape e s order size dst h ok =
    let a = alone_there given shape e s dst h ok.usable in
    write_safe given shape e s 1 dst (reordered_value order size (value_of e dst)) _
    (reordered order size a.number) h ok.frame
    (only_there (reordered order size) (register s dst) a.number a.is)
    (given.reorderings (answers h) order size (value_of e dst) a.number a.included)
