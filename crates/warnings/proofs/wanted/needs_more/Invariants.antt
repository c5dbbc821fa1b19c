use Rattle.std.proofs.Common.{◌≡◌, length}
use Rattle.warnings.specs.Wanted.{needs_more}
use Rattle.warnings.proofs.wanted.needs_more.Given as goal

-- the remaining steps decide
abbrev pub invariant-loop-left : goal.invariant-loop-left
invariant-loop-left l = needs_more l.left ≡ needs_more l.steps

abbrev pub decreases-loop-left : goal.decreases-loop-left
decreases-loop-left l = length l.left
