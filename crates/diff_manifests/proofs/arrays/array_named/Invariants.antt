use Rattle.std.proofs.Common.{◌≡◌, length}
use Rattle.diff_manifests.specs.Arrays.{declared_as}
use Rattle.diff_manifests.proofs.arrays.array_named.Given as goal

abbrev pub invariant-loop-left : goal.invariant-loop-left
invariant-loop-left l =
    declared_as l.left l.name ≡ declared_as l.arrays l.name

abbrev pub decreases-loop-left : goal.decreases-loop-left
decreases-loop-left l = length l.left
