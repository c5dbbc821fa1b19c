-- No program has two verdicts.
use Rattle.std.proofs.Common.{◌≡◌, ℕ, ◌<◌, sym, ap, subst, ◌∙◌, arith}
use Rattle.std.proofs.lemmas.Option.{same_Some, none-some}
use Rattle.bpf_insn.specs.declared.insn.Insn.{Insn}
use Rattle.bpf_insn.specs.Program.{Program}
use Rattle.bpf_semantics.specs.Program.{ShapedProgram, shaped}
use Rattle.cells.specs.Arrays.{AppShape}
use Rattle.abs_value.specs.declared.state.AbsState.{AbsState}
use Rattle.bpf_checks.specs.declared.refusal.VerifierRule.{VerifierRule}
use Rattle.bpf_checks.specs.Rules.{first_rule}
use Rattle.bpf_verify.specs.Accepted.{IsFine, Fails, IsRefusedAt, ProgramHasOneVerdict}

fails_not_fine : (p : ShapedProgram) (s : ℕ) (rule : VerifierRule) → Fails p s rule → IsFine p s → ⊥
fails_not_fine p s rule f fine =
    none-some rule (sym (fine f.entry f.insn f.entry_is f.insn_is) ∙ f.rule_is)

same_rule : (p : ShapedProgram) (s : ℕ) (rule other : VerifierRule) → Fails p s rule
    → Fails p s other
    → rule ≡ other
same_rule p s rule other a b =
    let entry : a.entry ≡ b.entry = same_Some _ _ (sym a.entry_is ∙ b.entry_is) in
    let insn : a.insn ≡ b.insn = same_Some _ _ (sym a.insn_is ∙ b.insn_is) in
    same_Some _ _ (sym a.rule_is ∙ ap (λ (e : AbsState). first_rule p.shape e a.insn) entry
    ∙ ap (λ (i : Insn). first_rule p.shape b.entry i) insn ∙ b.rule_is)

same_refusal : (p : ShapedProgram) (s t : ℕ) (rule other : VerifierRule)
    → IsRefusedAt p s rule → IsRefusedAt p t other → (s ≡ t) × (rule ≡ other)
same_refusal p s t rule other a b =
    let not_below : ¬ (s < t) = λ lt. fails_not_fine p s rule a.fails (b.before s lt) in
    let not_above : ¬ (t < s) = λ lt. fails_not_fine p t other b.fails (a.before t lt) in
    let same : s ≡ t = omega (arith, not_below, not_above) in
    (same, same_rule p t rule other (subst (λ (n : ℕ). Fails p n rule) same a.fails) b.fails)

pub one_verdict : (p : Program) (shape : AppShape) → ProgramHasOneVerdict p shape
one_verdict p shape = record {
  either =
      λ s rule accepted refused. fails_not_fine (shaped p shape) s rule refused.fails (accepted s);
  refusal = same_refusal (shaped p shape);
}
