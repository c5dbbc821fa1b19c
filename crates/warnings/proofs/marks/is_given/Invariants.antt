use Rattle.std.proofs.Common.{◌≡◌, length}
use Rattle.warnings.specs.Marks.{is_given}
use Rattle.warnings.proofs.marks.is_given.Given as goal

-- the remaining statements decide
abbrev pub invariant-loop-left : goal.invariant-loop-left
invariant-loop-left l = is_given l.marks l.left l.release ≡ is_given l.ends l.statements l.release

abbrev pub decreases-loop-left : goal.decreases-loop-left
decreases-loop-left l = length l.left
