use Rattle.workers.specs.Back.{OperatorBack}
use Rattle.workers.proofs.Lines.{end_now}
use Rattle.workers.proofs.operating.operate.Given as goal

-- the lines so far have led here, at most one a connection, and the operator's pass did only what
-- they read
abbrev pub invariant-loop : goal.invariant-loop
invariant-loop g l =
    OperatorBack (g.C.CellSteps.belongs l.parts.cells.now) (g.C.CellSteps.grew)
    (g.L.Loader.loads l.parts.loader.now) (end_now l.port.accepted l.control)
    (l.initial.pass, l.initial.control) (l.pass, l.control)
