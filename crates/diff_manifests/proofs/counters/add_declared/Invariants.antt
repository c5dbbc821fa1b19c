use Rattle.std.proofs.Common.{◌≡◌, ◌++◌, drop}
use Rattle.diff_manifests.specs.Counters.{used_declared}
use Rattle.diff_manifests.proofs.counters.add_declared.Given as goal

abbrev pub invariant-loop-cell : goal.invariant-loop-cell
invariant-loop-cell l =
    l.used.items ++ used_declared l.old l.new (drop l.cell-index l.cells)
    ≡ l.initial.used.items ++ used_declared l.old l.new l.cells
