-- Bytes of more than 4096 slots aren't a program, and have one fault.
use Rattle.std.proofs.Common.{◌≡◌, ℕ, ◌+◌, ◌*◌, ◌<◌, List, [], ◌∷◌, length}
use Rattle.std.proofs.Common.{refl, sym, ap, ◌∙◌, arith, length-append}
use Rattle.bpf_insn.specs.declared.insn.Insn.{Insn}
use Rattle.bpf_insn.specs.declared.insn.Insn.TheVariants.{Wide}
use Rattle.bpf_insn.specs.Program.{Program, layout}
use Rattle.bpf_insn.specs.Spelling.{encoding}
use Rattle.flow_check.specs.Fault.{HasOneVerdict, IsFlowFault}
use Rattle.flow_check.specs.Flow.{IsAcceptedAs, program_bytes}
use Rattle.flow_check.specs.declared.flow_fault.FlowFault.TheVariants.{Rule}
use Rattle.flow_check.specs.declared.flow_fault.FlowRule.{FlowRule}
use Rattle.flow_check.specs.declared.flow_fault.FlowRule.TheVariants.{Empty, TooLong, Unreached}
use Rattle.flow_check.specs.declared.flow_fault.FlowRule.TheVariants.{Insn as NoInsn}

-- eight bytes a slot
laid_length : (is : List Insn) → length (program_bytes (layout is)) ≡ 8 * length (layout is)
laid_length [] = refl
laid_length (Wide dst value ∷ is) =
    let long : length (program_bytes (layout (Wide dst value ∷ is)))
    ≡ length (encoding (Wide dst value)) + length (program_bytes (layout is)) =
    length-append (encoding (Wide dst value)) (program_bytes (layout is)) in
    let bytes : length (encoding (Wide dst value)) ≡ 16 = refl in
    let slots : length (layout (Wide dst value ∷ is)) ≡ 2 + length (layout is) = omega arith in
    omega (arith, long, bytes, slots, laid_length is)
laid_length (i ∷ is) =
    let long : length (program_bytes (layout (i ∷ is)))
    ≡ length (encoding i) + length (program_bytes (layout is)) =
    length-append (encoding i) (program_bytes (layout is)) in
    let bytes : length (encoding i) ≡ 8 = refl in
    let slots : length (layout (i ∷ is)) ≡ 1 + length (layout is) = omega arith in
    omega (arith, long, bytes, slots, laid_length is)

no_program : (bytes : List ℕ) (p : Program) → 32768 < length bytes → IsAcceptedAs bytes p → ⊥
no_program bytes p long a =
    let laid : length (program_bytes p) ≡ 8 * length p =
    ap (λ (q : Program). length (program_bytes q)) a.0.program.1 ∙ laid_length a.0.program.0
    ∙ ap (λ (q : Program). 8 * length q) (sym a.0.program.1) in
    let same : length (program_bytes p) ≡ length bytes = ap length a.1 in
    omega (arith, long, laid, same, a.0.short)

only_long : (bytes : List ℕ) (s : ℕ) (rule : FlowRule) → 32768 < length bytes
    → IsFlowFault bytes (Rule s rule) → (s ≡ 0) × (rule ≡ TooLong)
only_long bytes s Empty long h =
    let none : length bytes ≡ 0 = ap length h.0 in absurd (omega (arith, long, none))
only_long bytes s TooLong long h = (h.1, refl)
only_long bytes s (NoInsn e) long h = absurd (omega (arith, long, h.short))
only_long bytes s Unreached long h = absurd (omega (arith, long, h.read.short))
only_long bytes s rule long h = absurd (omega (arith, long, h.read.short))

pub long_verdict : (bytes : List ℕ) → 32768 < length bytes → HasOneVerdict bytes
long_verdict bytes long = record {
  program = λ p q a b. absurd (no_program bytes p long a);
  fault = λ s t rule other a b.
      let h = only_long bytes s rule long a in
      let k = only_long bytes t other long b in (h.0 ∙ sym k.0, h.1 ∙ sym k.1);
  either = λ p s rule a b. no_program bytes p long a;
}
