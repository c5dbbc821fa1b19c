use Rattle.std.proofs.Common.{List, ◌++◌, length}
use Rattle.std.specs.List.{AllZip}
use Rattle.diff_space.specs.declared.plan.PlanStep.{PlanStep}
use Rattle.diff_space.specs.Plans.{IsStepOf}
use Rattle.diff_space.specs.Scopes.{IsWithin, scope_of}
use Rattle.diff_space.proofs.plan.plan_steps.Given as goal

-- whatever plans the remaining steps plans all with what is done
abbrev pub invariant-loop-left : goal.invariant-loop-left
invariant-loop-left l =
    (more : List PlanStep)
    → AllZip (IsStepOf (IsWithin (scope_of l.bounds)) l.dimensions l.rule.shape.now) l.left more
    → AllZip (IsStepOf (IsWithin (scope_of l.bounds)) l.dimensions l.rule.shape.now) l.steps
    (l.planned.items ++ more)

abbrev pub decreases-loop-left : goal.decreases-loop-left
decreases-loop-left l = length l.left
