use Rattle.std.proofs.Common.{List, ◌++◌, length}
use Rattle.diff_space.specs.declared.plan.PlanStatement.{PlanStatement}
use Rattle.diff_space.specs.Plans.{IsPlanOf}
use Rattle.diff_space.specs.Scopes.{IsWithin, scope_of}
use Rattle.diff_space.proofs.plan.plan_of.Given as goal

-- whatever plans the remaining statements plans all with what is done
abbrev pub invariant-loop-left : goal.invariant-loop-left
invariant-loop-left l =
    (more : List PlanStatement)
    → IsPlanOf (IsWithin (scope_of l.bounds)) l.dimensions l.rule.shape.now l.rule.contents.now
    l.left more
    → IsPlanOf (IsWithin (scope_of l.bounds)) l.dimensions l.rule.shape.now l.rule.contents.now
    l.rule.statements.now (l.planned.items ++ more)

abbrev pub decreases-loop-left : goal.decreases-loop-left
decreases-loop-left l = length l.left
