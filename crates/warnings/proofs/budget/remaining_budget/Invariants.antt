use Rattle.std.proofs.Common.{◌≡◌, length}
use Rattle.warnings.specs.Budget.{budget_less, budget_taken}
use Rattle.warnings.proofs.budget.remaining_budget.Given as goal

-- the remaining statements decide
abbrev pub invariant-loop-left : goal.invariant-loop-left
invariant-loop-left l =
    budget_less (budget_taken l.versions l.left) l.budget
    ≡ budget_less (budget_taken l.versions l.statements) l.initial.budget

abbrev pub decreases-loop-left : goal.decreases-loop-left
decreases-loop-left l = length l.left
