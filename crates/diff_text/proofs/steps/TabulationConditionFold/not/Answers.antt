use Rattle.diff_text.proofs.Made.{negated_made}
use Rattle.diff_text.proofs.steps.TabulationConditionFold.not.Goals as goal

pub returns-in-Some : goal.returns-in-Some
returns-in-Some c = λ tree before after made.
    negated_made c.args.self.now.dimensions.now tree c.in-Some.part c.negated.result
    (rw c.in-Some.is at made) (c.negated.ensures c.args.self.now.dimensions.now)
