use Rattle.std.proofs.Common.{List, length}
use Rattle.warnings.specs.declared.spot.Spot.{Spot}
use Rattle.warnings.specs.Evaluation.{rule_of, someone}
use Rattle.warnings.specs.Marks.{AreMarked}
use Rattle.warnings.proofs.Reported.{AreReported}
use Rattle.warnings.proofs.whens.push_when_warnings.Given as goal

abbrev pub invariant-loop-left : goal.invariant-loop-left
invariant-loop-left l =
    (spots : List Spot)
    → AreMarked (rule_of l.evaluated) (someone (rule_of l.evaluated) spots) l.marks.reached.items
    l.marks.ends.items
    → AreReported l.app (rule_of l.evaluated) spots l.initial.warnings.items l.left l.reached l.ends
    l.warnings.items

abbrev pub decreases-loop-left : goal.decreases-loop-left
decreases-loop-left l = length l.left
