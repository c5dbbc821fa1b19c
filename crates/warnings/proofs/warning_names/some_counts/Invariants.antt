use Rattle.std.proofs.Common.{◌≡◌, length}
use Rattle.warnings.specs.Names.{some_counts}
use Rattle.warnings.proofs.warning_names.some_counts.Given as goal

-- the remaining warnings decide
abbrev pub invariant-loop-left : goal.invariant-loop-left
invariant-loop-left l = some_counts l.allowed l.left ≡ some_counts l.allowed l.warnings

abbrev pub decreases-loop-left : goal.decreases-loop-left
decreases-loop-left l = length l.left
