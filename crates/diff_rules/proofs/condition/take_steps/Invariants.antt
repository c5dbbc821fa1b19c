use Rattle.std.proofs.Common.{◌≡◌, length, reverse}
use Rattle.diff_rules.specs.Stack.{after_steps}
use Rattle.diff_rules.proofs.condition.take_steps.Given as goal

-- the remaining steps complete the stack
abbrev pub invariant-loop-left : goal.invariant-loop-left
invariant-loop-left l =
    after_steps l.dimensions l.partial (reverse l.parts.items) (reverse l.taken.items) l.left
    ≡ after_steps l.dimensions l.partial (reverse l.initial.parts.items)
    (reverse l.initial.taken.items) l.steps

abbrev pub decreases-loop-left : goal.decreases-loop-left
decreases-loop-left l = length l.left
