use Rattle.std.specs.Prelude.{◌≡◌}
use Rattle.workers.specs.Back.{ConnectionsBack}
use Rattle.workers.proofs.worker.attend_all.Given as goal

-- the cells are the same, and no connection so far has two answers
abbrev pub invariant-loop : goal.invariant-loop
invariant-loop g l =
    (l.seat.cells.now ≡ l.initial.seat.cells.now)
    × ConnectionsBack (g.K.Cover.withholds l.crew.cover.now)
    (g.C.CellSteps.belongs l.initial.seat.cells.now) (g.C.CellSteps.grew)
    l.calls.taken (l.initial.seat.pass, l.initial.seat.watcher) (l.seat.pass, l.seat.watcher)
