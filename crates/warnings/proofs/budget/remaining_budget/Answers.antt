use Rattle.std.proofs.Common.{arith}
use Rattle.warnings.proofs.Taken.{budget_next}
use Rattle.warnings.proofs.budget.remaining_budget.Goals as goal

pub loop-left-preserved : goal.loop-left-preserved
loop-left-preserved c =
    budget_next c.args.versions c.loop-left.budget c.loop-left.left.now c.statement-item.result
    c.budget_after_one.result (omega arith) c.statement-item.is c.budget_after_one.ensures _ _
    c.in-Some.is c.loop-left.invariant
