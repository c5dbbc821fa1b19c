use Rattle.std.proofs.Common.{◌≡◌, ◌++◌, length}
use Rattle.warnings.specs.RuleWarnings.{parts_of_steps}
use Rattle.warnings.proofs.parts.push_parts_of_steps.Given as goal

abbrev pub invariant-loop-left : goal.invariant-loop-left
invariant-loop-left l =
    l.warnings.items ++ parts_of_steps l.app l.left
    ≡ l.initial.warnings.items ++ parts_of_steps l.app l.steps

abbrev pub decreases-loop-left : goal.decreases-loop-left
decreases-loop-left l = length l.left
