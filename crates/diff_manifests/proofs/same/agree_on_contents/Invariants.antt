use Rattle.std.proofs.Common.{length}
use Rattle.diff_manifests.specs.Apps.{AgreeAsFar}
use Rattle.diff_manifests.proofs.same.agree_on_contents.Given as goal

abbrev pub invariant-loop-left : goal.invariant-loop-left
invariant-loop-left l =
    AgreeAsFar l.left l.right → AgreeAsFar l.contents l.others

abbrev pub decreases-loop-left : goal.decreases-loop-left
decreases-loop-left l = length l.left
