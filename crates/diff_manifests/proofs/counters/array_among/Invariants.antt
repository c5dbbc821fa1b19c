use Rattle.std.proofs.Common.{◌≡◌, length}
use Rattle.diff_manifests.specs.Counters.{array_with}
use Rattle.diff_manifests.proofs.counters.array_among.Given as goal

abbrev pub invariant-loop-left : goal.invariant-loop-left
invariant-loop-left l =
    array_with l.left l.cell ≡ array_with l.arrays l.cell

abbrev pub decreases-loop-left : goal.decreases-loop-left
decreases-loop-left l = length l.left
