use Rattle.std.proofs.Common.{◌≡◌, ◌++◌, drop}
use Rattle.diff_manifests.specs.Counters.{are_declared}
use Rattle.diff_manifests.proofs.counters.are_declared.Given as goal

abbrev pub invariant-loop-cell : goal.invariant-loop-cell
invariant-loop-cell l =
    are_declared (l.old ++ l.new) (drop l.cell-index l.cells)
    ≡ are_declared (l.old ++ l.new) l.cells
