use Rattle.std.proofs.Common.{◌≡◌, [], length, reverse}
use Rattle.diff_rules.specs.Stack.{plan_run}
use Rattle.diff_rules.proofs.plan_run.run_plan.Given as goal

-- the remaining statements decide
abbrev pub invariant-loop-left : goal.invariant-loop-left
invariant-loop-left l =
    plan_run l.dimensions l.partial (reverse l.taken.items) l.left
    ≡ plan_run l.dimensions l.partial [] l.plan

abbrev pub decreases-loop-left : goal.decreases-loop-left
decreases-loop-left l = length l.left
