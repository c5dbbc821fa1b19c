use Rattle.std.proofs.Common.{length}
use Rattle.warnings.specs.Evaluation.{rule_of}
use Rattle.warnings.proofs.Crowds.{AreSpotsMarked}
use Rattle.warnings.proofs.marks.mark_spots.Given as goal

abbrev pub invariant-loop-left : goal.invariant-loop-left
invariant-loop-left l = AreSpotsMarked (rule_of l.evaluated) l.spots l.left l.reached l.ends

abbrev pub decreases-loop-left : goal.decreases-loop-left
decreases-loop-left l = length l.left
