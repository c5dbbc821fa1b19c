use Rattle.std.proofs.Common.{◌∙◌, ap, refl, subst, sym, List, Ok, ℕ}
use Rattle.cells.specs.Arrays.{AppShape}
use Rattle.rule_compile.specs.Code.{rule_code}
use Rattle.rule_lang.specs.Verdicts.{IsRuleFault, IsVerdict}
use Rattle.acceptance.specs.Rule.{no_text}
use Rattle.acceptance.proofs.Texts.{text_fault}
use Rattle.acceptance.proofs.rule.rule_program.Goals as goal

pub returns-in_default-clause-fault : goal.returns-in_default-clause-fault
returns-in_default-clause-fault c = no_text c.in_default.ensures.cases.0

pub returns-in-Err-clause-fault : goal.returns-in-Err-clause-fault
returns-in-Err-clause-fault c =
    text_fault c.args.shape.now c.args.text.now c.in-Err.fault c.in-Ok.ensures.cases.1
    (subst (λ (t : List ℕ). IsRuleFault c.args.shape.now t c.in-Err.fault)
    c.in-Ok.ensures.cases.0 c.in-Err.ensures.fault)

pub returns-in-Ok-compile-clause-program : goal.returns-in-Ok-compile-clause-program
returns-in-Ok-compile-clause-program c =
    let rule = c.in-Ok-parse.rule in
    let shape = c.in-Ok-compile.ensures.shape in
    record {
      program_is = record {
        rule = rule;
        text = record {
          utf8 = c.in-Ok.ensures.cases.1;
          spelled = subst (λ (s : AppShape). IsVerdict s c.args.text.now (Ok rule)) (sym shape)
              (subst (λ (t : List ℕ). IsVerdict c.args.shape.now t (Ok rule))
              c.in-Ok.ensures.cases.0 c.in-Ok-parse.ensures.rule);
        };
        code = c.in-Ok-compile.ensures.code
            ∙ ap (λ (s : AppShape). rule_code s rule) (sym shape);
        means = c.in-Ok-compile.ensures.meaning;
        flow = c.invariant_law.ensures.flow;
        accepted = c.invariant_law.ensures.accepted;
      };
      rule_is = refl;
    }
