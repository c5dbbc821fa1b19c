use Rattle.std.proofs.Common.{◌≡◌, length}
use Rattle.warnings.specs.Wanted.{wants}
use Rattle.warnings.proofs.wanted.wants.Given as goal

-- the remaining steps decide
abbrev pub invariant-loop-left : goal.invariant-loop-left
invariant-loop-left l = wants l.flag l.left ≡ wants l.flag l.steps

abbrev pub decreases-loop-left : goal.decreases-loop-left
decreases-loop-left l = length l.left
