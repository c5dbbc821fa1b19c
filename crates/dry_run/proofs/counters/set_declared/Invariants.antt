use Rattle.std.proofs.Common.{◌≡◌, drop}
use Rattle.dry_run.specs.Counters.{with_declared}
use Rattle.dry_run.proofs.counters.set_declared.Given as goal

-- setting the known cells that are left sets all known cells
abbrev pub invariant-loop-cell : goal.invariant-loop-cell
invariant-loop-cell l =
    with_declared l.arrays l.counters (drop l.cell-index l.assignments)
    ≡ with_declared l.arrays l.initial.counters l.assignments
