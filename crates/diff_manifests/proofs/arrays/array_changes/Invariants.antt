use Rattle.std.proofs.Common.{◌≡◌, ◌++◌, length}
use Rattle.diff_manifests.specs.Arrays.{array_changes}
use Rattle.diff_manifests.proofs.arrays.array_changes.Given as goal

abbrev pub invariant-loop-left : goal.invariant-loop-left
invariant-loop-left l =
    l.changes.items ++ array_changes l.left l.new ≡ array_changes l.old l.new

abbrev pub decreases-loop-left : goal.decreases-loop-left
decreases-loop-left l = length l.left
