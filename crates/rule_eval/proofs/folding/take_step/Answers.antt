use Rattle.std.proofs.Common.{reverse, refl}
use Rattle.rule_lang.specs.Trees.{Both, Either}
use Rattle.rule_lang.specs.declared.condition.Step.TheVariants as step
use Rattle.rule_eval.proofs.Made.{made_by_test, made_by_two}
use Rattle.rule_eval.proofs.folding.take_step.Goals as goal

pub returns-in-Test : goal.returns-in-Test
returns-in-Test g c = λ first all left made.
    made_by_test (g.F.ConditionFold.evaluates c.args.by.now) first all left c.in-Test.line
    c.in-Test.test c.test.result (reverse c.args.parts.now.items) c.args.state.now
    c.test.new.state (c.test.ensures c.in-Test.line) (rw c.in-Test.is at made)

pub returns-in-And : goal.returns-in-And
returns-in-And g c = λ first all left made.
    made_by_two (g.F.ConditionFold.evaluates c.args.by.now) first all left step.And Both
    (λ b d ds. refl) c.pop-first.result c.pop-second.result c.and.result
    (reverse c.pop-first.new.parts.items) c.args.state.now c.and.new.state c.and.ensures
    (rw c.pop-first.ensures at (rw c.pop-second.ensures at (rw c.in-And.is at made)))

pub returns-in-Or : goal.returns-in-Or
returns-in-Or g c = λ first all left made.
    made_by_two (g.F.ConditionFold.evaluates c.args.by.now) first all left step.Or Either
    (λ b d ds. refl) c.pop-first-in-Or.result c.pop-second-in-Or.result c.or.result
    (reverse c.pop-first-in-Or.new.parts.items) c.args.state.now c.or.new.state c.or.ensures
    (rw c.pop-first-in-Or.ensures at (rw c.pop-second-in-Or.ensures at (rw c.in-Or.is at made)))
