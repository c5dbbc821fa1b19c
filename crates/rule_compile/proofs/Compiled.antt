-- What `compile` needs of the generated code.
use Rattle.std.proofs.Common.{◌≡◌, ℕ, ◌≤◌, List, length, true, sym, ap, subst, ◌∙◌}
use Rattle.std.specs.List.{AllByRecursion}
use Rattle.attrs.specs.Attributes.{Attributes}
use Rattle.bpf_insn.specs.Program.{Program}
use Rattle.bpf_semantics.specs.Program.{ShapedProgram}
use Rattle.cells.specs.Arrays.{AppShape, IsShape}
use Rattle.flow_check.specs.Flow.{IsFlow}
use Rattle.bpf_verify.specs.Accepted.{IsAccepted}
use Rattle.bpf_verify.specs.Table.{SlotFacts, IsTable}
use Rattle.rule_lang.specs.declared.rule.Statement.{Statement}
use Rattle.rule_lang.specs.Fits.{fits}
use Rattle.rule_compile.specs.Code.{rule_code}
use Rattle.rule_compile.specs.Means.{Means}
use Rattle.rule_compile.specs.Ranges.{IsRuleInRange, AreMade}
use Rattle.rule_compile.specs.Writing.{CanEncode}
use Rattle.rule_compile.proofs.RuleRuns.{rule_means}
use Rattle.rule_compile.proofs.StatementFronts.{rule_flow, rule_table}

module _ (s : AppShape) (xs ys : List Statement) (code : Program) (same : ys ≡ xs)
    (shape : IsShape s) (fit : fits s xs ≡ true)
    (range : IsRuleInRange ys) (made : AreMade ys) (is : code ≡ rule_code s ys) where
  code_is : code ≡ rule_code s xs
  code_is = is ∙ ap (rule_code s) same

  pub written_flow : (slots : Program) → slots ≡ code → length code ≤ 4096
      → AllByRecursion CanEncode slots → IsFlow slots
  written_flow slots slots_are short encodable =
      let whole = slots_are ∙ code_is in
      subst IsFlow (sym whole)
      (rule_flow s shape xs (subst IsRuleInRange same range) fit (subst AreMade same made)
      (subst (AllByRecursion CanEncode) whole encodable)
      (subst (λ (p : Program). length p ≤ 4096) code_is short))

  pub written_accepted : ((p : Program) (s : AppShape) (table : ℕ → SlotFacts) → IsTable p s table
      → IsAccepted p s) → (p : Program) → p ≡ code → IsAccepted p s
  written_accepted law p p_is =
      let t = rule_table s shape xs (subst IsRuleInRange same range) fit
      (subst AreMade same made) in
      subst (λ (q : Program). IsAccepted q s) (sym (p_is ∙ code_is))
      (law (rule_code s xs) s t.0 t.1)

  pub written_means : (p : ShapedProgram) → p.code ≡ code → p.shape ≡ s → (a : Attributes)
      → Means a xs p
  written_means p p_is shape_is a = means p.code p.shape (p_is ∙ code_is) shape_is
    where
      means : (q : Program) (t : AppShape) → q ≡ rule_code s xs → t ≡ s
          → Means a xs (record { code = q; shape = t })
      means q t q_is t_is =
          subst (λ (u : AppShape). Means a xs (record { code = q; shape = u })) (sym t_is)
          (rule_means s xs q shape (subst IsRuleInRange same range) fit
          (subst AreMade same made) q_is a)
