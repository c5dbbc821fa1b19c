use Rattle.std.proofs.Common.{◌≡◌, drop}
use Rattle.dry_run.specs.Counters.{with_cells}
use Rattle.dry_run.proofs.counters.set_cells.Given as goal

-- setting the cells that are left sets all cells
abbrev pub invariant-loop-cell : goal.invariant-loop-cell
invariant-loop-cell l =
    with_cells l.arrays l.counters (drop l.cell-index l.assignments)
    ≡ with_cells l.arrays l.initial.counters l.assignments
