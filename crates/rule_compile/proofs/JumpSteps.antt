-- Each jump of a rule's code as a step: both edges lead to what is known there.
use Rattle.std.proofs.Common.{◌≡◌, ℕ, ◌≤◌, ℤ, pos, List, Option, Some, None}
use Rattle.std.proofs.Common.{Bool, true, false, refl, sym, subst, arith}
use Rattle.std.specs.Prelude.{option_map}
use Rattle.bpf_insn.specs.declared.insn.Insn.TheVariants.{JumpIf}
use Rattle.bpf_insn.specs.declared.operand.Bits.TheVariants.{Bits32, Bits64}
use Rattle.bpf_insn.specs.declared.operand.Condition.{Condition}
use Rattle.bpf_insn.specs.declared.operand.Operand.TheVariants.{Imm, Register}
use Rattle.bpf_insn.specs.declared.reg.Reg.{Reg}
use Rattle.bpf_insn.specs.declared.reg.Reg.TheVariants.{R2, R4}
use Rattle.bpf_insn.specs.Program.{Program}
use Rattle.bpf_insn.specs.Table.{number_of}
use Rattle.bpf_insn.specs.Words.{immediate}
use Rattle.cells.specs.Arrays.{AppShape}
use Rattle.abs_value.specs.declared.number.Number.{Number}
use Rattle.abs_value.specs.declared.value.Abs.{Abs}
use Rattle.abs_value.specs.declared.value.Abs.TheVariants.{Num}
use Rattle.abs_value.specs.declared.state.AbsState.{AbsState}
use Rattle.abs_value.specs.Numbers.{single, most}
use Rattle.abs_value.specs.Narrowing.{NumberPair, narrowed}
use Rattle.abs_value.specs.Values.{numbers}
use Rattle.abs_value.specs.Lookups.{compares_with_zero, with_both, refined_state}
use Rattle.abs_value.specs.States.{register_at, value_at, value_of, with_value}
use Rattle.bpf_checks.specs.Rules.{first_rule}
use Rattle.bpf_verify.specs.Table.{SlotFacts, IsWider, HasFacts}
use Rattle.rule_compile.specs.Instructions as insn
use Rattle.rule_compile.proofs.Typed.{IsStep}
use Rattle.rule_compile.proofs.Entries.{any, Takes, knows_over}
use Rattle.rule_compile.proofs.Narrowings.{wider_at, number_in, IsNarrower, narrowed_narrow}

module _ (shape : AppShape) where
  -- ---- jumps

  jump_passes : (condition : Condition) (left : Reg) (k : ℤ) (n : ℕ) (e : AbsState) (a : Number)
      → value_of e left ≡ Num a → first_rule shape e
      (JumpIf Bits32 condition left (Imm k) (pos n)) ≡ None
  unfolding first_rule
  jump_passes condition left k n e a is = rw is refl

  after_narrowing : (d : SlotFacts) (e f : AbsState) (left : Reg) (k : ℤ) (a b : Number)
      (o : Option NumberPair) → HasFacts d e → register_at d.registers (number_of left) ≡ Num any
      → most a ≤ most any
      → ((p : NumberPair) → o ≡ Some p → IsNarrower a b p)
      → option_map (with_both e left (Imm k)) (option_map numbers o) ≡ Some f → HasFacts d f
  after_narrowing d e f left k a b None h is hi narrow makes = absurd cc
  after_narrowing d e f left k a b (Some p) h is hi narrow makes =
      let same : with_value e left (Num p.0) ≡ f = cc in
      let n = narrow p refl in
      let range : IsWider (Num any) (Num p.0) =
      (omega arith, n.ordered, omega (arith, n.within, hi)) in
      subst (HasFacts d) same (knows_over d e left (Num p.0) h
      (subst (λ (v : Abs). IsWider v (Num p.0)) (sym is) range))

  jump_leaves : (condition : Condition) (left : Reg) (k : ℤ) (jumps : Bool) (d : SlotFacts)
      (e f : AbsState) → HasFacts d e → register_at d.registers (number_of left) ≡ Num any
      → refined_state e Bits32 condition left (Imm k) jumps ≡ Some f → HasFacts d f
  jump_leaves condition left k jumps d e f h is makes =
      let n = number_in any (value_of e left) (wider_at d e (number_of left) (Num any) h is) in
      let b : Number = single (immediate Bits32 k) in
      after_narrowing d e f left k n.0 b (narrowed Bits32 condition jumps n.0 b) h is n.2.2
      (λ p. narrowed_narrow Bits32 condition jumps n.0 b p n.2.1 (omega arith))
      (rw n.1 at makes)

  pub jump_step : (condition : Condition) (left : Reg) (n k : ℕ) (d : SlotFacts) (q : Program)
      (ds : List SlotFacts) → register_at d.registers (number_of left) ≡ Num any
      → Takes q ds 0 d → Takes q ds k d → IsStep shape d (insn.jump_if condition left n k) q ds
  jump_step condition left n k d q ds is next to = record {
    half = tt;
    passes = λ e h. let m = number_in any (value_of e left)
        (wider_at d e (number_of left) (Num any) h is) in
        jump_passes condition left (insn.imm_of n) k e m.0 m.1;
    next = λ s. (
      next.place,
      λ e f h makes. next.known f
          (jump_leaves condition left (insn.imm_of n) false d e f h is makes),
    );
    jump = (
      k,
      refl,
      (
        to.place,
        λ e f h makes. to.known f
            (jump_leaves condition left (insn.imm_of n) true d e f h is makes),
      ),
    );
  }

  -- a jump on two registers, after which nothing about them is needed
  both_pass : (condition : Condition) (n : ℕ) (e : AbsState) (a b : Number) → value_at e 2 ≡ Num a
      → value_at e 4 ≡ Num b → first_rule shape e
      (JumpIf Bits64 condition R2 (Register R4) (pos n)) ≡ None
  unfolding first_rule
  both_pass condition n e a b is is_too = rw (is, is_too) refl

  both_narrowed : (d : SlotFacts) (e f : AbsState) (a b : Number) (o : Option NumberPair)
      → HasFacts d e
      → register_at d.registers 2 ≡ Num any → register_at d.registers 4 ≡ Num any
      → most a ≤ most any
      → most b ≤ most any
      → ((p : NumberPair) → o ≡ Some p → IsNarrower a b p)
      → option_map (with_both e R2 (Register R4)) (option_map numbers o) ≡ Some f → HasFacts d f
  both_narrowed d e f a b None h two four hi hi_too narrow makes = absurd cc
  both_narrowed d e f a b (Some p) h two four hi hi_too narrow makes =
      let same : with_value (with_value e R2 (Num p.0)) R4 (Num p.1) ≡ f = cc in
      let n = narrow p refl in
      let first : IsWider (Num any) (Num p.0) =
      (omega arith, n.ordered, omega (arith, n.within, hi)) in
      let second : IsWider (Num any) (Num p.1) =
      (omega arith, n.ordered_too, omega (arith, n.within_too, hi_too)) in
      let once = knows_over d e R2 (Num p.0) h
      (subst (λ (v : Abs). IsWider v (Num p.0)) (sym two) first) in
      subst (HasFacts d) same (knows_over d (with_value e R2 (Num p.0)) R4 (Num p.1) once
      (subst (λ (v : Abs). IsWider v (Num p.1)) (sym four) second))

  both_leave : (condition : Condition) (jumps : Bool) (d : SlotFacts) (e f : AbsState)
      → compares_with_zero Bits64 condition (Register R4) ≡ false → HasFacts d e
      → register_at d.registers 2 ≡ Num any → register_at d.registers 4 ≡ Num any
      → refined_state e Bits64 condition R2 (Register R4) jumps ≡ Some f → HasFacts d f
  both_leave condition jumps d e f other h two four makes =
      let a = number_in any (value_at e 2) (wider_at d e 2 (Num any) h two) in
      let b = number_in any (value_at e 4) (wider_at d e 4 (Num any) h four) in
      both_narrowed d e f a.0 b.0 (narrowed Bits64 condition jumps a.0 b.0) h two four a.2.2 b.2.2
      (λ p. narrowed_narrow Bits64 condition jumps a.0 b.0 p a.2.1 b.2.1)
      (rw (other, a.1, b.1) at makes)

  no_zero : (sense : Bool) → compares_with_zero Bits64 (insn.below sense) (Register R4) ≡ false
  no_zero true = refl
  no_zero false = refl

  pub quota_jump_step : (sense : Bool) (k : ℕ) (d : SlotFacts) (q : Program) (ds : List SlotFacts)
      → register_at d.registers 2 ≡ Num any → register_at d.registers 4 ≡ Num any
      → Takes q ds 0 d → Takes q ds k d → IsStep shape d (insn.jump_on_quota sense k) q ds
  quota_jump_step sense k d q ds two four next to = record {
    half = tt;
    passes = λ e h.
        let a = number_in any (value_at e 2) (wider_at d e 2 (Num any) h two) in
        let b = number_in any (value_at e 4) (wider_at d e 4 (Num any) h four) in
        both_pass (insn.below sense) k e a.0 b.0 a.1 b.1;
    next = λ s. (
      next.place,
      λ e f h makes. next.known f
          (both_leave (insn.below sense) false d e f (no_zero sense) h two four makes),
    );
    jump = (
      k,
      refl,
      (
        to.place,
        λ e f h makes. to.known f
            (both_leave (insn.below sense) true d e f (no_zero sense) h two four makes),
      ),
    );
  }
