use Rattle.std.proofs.Common.{length}
use Rattle.warnings.specs.Evaluation.{rule_of}
use Rattle.warnings.proofs.Marked.{IsOnWay}
use Rattle.warnings.proofs.marks.mark_way.Given as goal

abbrev pub invariant-loop-left : goal.invariant-loop-left
invariant-loop-left l =
    IsOnWay (rule_of l.evaluated) l.clients l.attrs l.initial.reached l.initial.ends l.place l.left
    l.reached l.ends

abbrev pub decreases-loop-left : goal.decreases-loop-left
decreases-loop-left l = length l.left
