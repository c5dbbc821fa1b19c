use Rattle.std.proofs.Common.{◌≡◌, ◌++◌, length, map}
use Rattle.warnings.specs.Marks.{is_count}
use Rattle.warnings.proofs.marks.unmarked.Given as goal

abbrev pub invariant-loop-left : goal.invariant-loop-left
invariant-loop-left l = l.marks.items ++ map is_count l.left ≡ map is_count l.statements

abbrev pub decreases-loop-left : goal.decreases-loop-left
decreases-loop-left l = length l.left
