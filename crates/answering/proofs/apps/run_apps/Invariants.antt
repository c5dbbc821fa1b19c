use Rattle.std.proofs.Common.{take}
use Rattle.cells.specs.Grown.{Grows}
use Rattle.answering.specs.Apps.{FindsApps}
use Rattle.answering.proofs.apps.run_apps.Given as goal

-- what was found for the apps so far, with their runs
abbrev pub invariant-loop-app : goal.invariant-loop-app
invariant-loop-app g l =
    g.C.CellSteps.belongs l.turn.cells.now l.pass
    × Grows (g.C.CellSteps.grew) l.initial.pass l.pass
    (FindsApps l.rules l.facts l.turn.moment.now (take l.app-index l.apps) l.found.items)
