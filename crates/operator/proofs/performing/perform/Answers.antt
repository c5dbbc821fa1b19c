use Rattle.operator.specs.Perform.{wordless, stopped}
use Rattle.operator.proofs.Counted.{grows_none}
use Rattle.operator.proofs.Performed.{of_cells, of_halt, of_load, of_resume, of_show, of_state}
use Rattle.operator.proofs.performing.perform.Goals as goal

pub returns-in_default-clause-performs : goal.returns-in_default-clause-performs
returns-in_default-clause-performs g c =
    grows_none (g.C.CellSteps.grew) _ _ (rw c.in_default.is wordless)

pub returns-in-Load-clause-performs : goal.returns-in-Load-clause-performs
returns-in-Load-clause-performs g c =
    let is = c.load.ensures in
    grows_none (g.C.CellSteps.grew) _ _ (rw (c.in-Some.is, c.in-Load.is, c.served.ensures)
    (of_load (g.L.Loader.loads c.args.loader.now) c.args.control.now c.load.new.self c.in-Load.path
    c.load.result is.done is.fault is.same))

pub returns-in-Halt-clause-performs : goal.returns-in-Halt-clause-performs
returns-in-Halt-clause-performs g c =
    let is = c.halt.ensures in
    grows_none (g.C.CellSteps.grew) _ _
    (rw (c.in-Some.is, c.in-Halt.is, c.served-in-Halt.ensures)
    (of_halt (g.L.Loader.loads c.args.loader.now) c.args.control.now c.halt.new.self
    c.in-Halt.appid c.halt.result is.done is.fault is.same))

pub returns-in-Resume-clause-performs : goal.returns-in-Resume-clause-performs
returns-in-Resume-clause-performs g c =
    let is = c.resume.ensures in
    grows_none (g.C.CellSteps.grew) _ _
    (rw (c.in-Some.is, c.in-Resume.is, c.served-in-Resume.ensures)
    (of_resume (g.L.Loader.loads c.args.loader.now) c.args.control.now c.resume.new.self
    c.in-Resume.appid c.resume.result is.done is.fault is.same))

pub returns-in-Show-clause-performs : goal.returns-in-Show-clause-performs
returns-in-Show-clause-performs g c =
    grows_none (g.C.CellSteps.grew) _ _ (rw (c.in-Some.is, c.in-Show.is, c.lines.ensures)
    (of_show (g.L.Loader.loads c.args.loader.now) c.args.control.now c.generation.result
    c.ruleset.result.now c.ruleset_lines.result c.generation.ensures c.ruleset.ensures
    c.ruleset_lines.ensures))

pub returns-in-State-clause-performs : goal.returns-in-State-clause-performs
returns-in-State-clause-performs g c =
    grows_none (g.C.CellSteps.grew) _ _
    (rw (c.in-Some.is, c.in-State.is, c.lines-in-State.ensures)
    (of_state (g.L.Loader.loads c.args.loader.now) c.args.control.now c.state_lines.result
    c.state_lines.ensures))

pub returns-in-Cells-clause-performs : goal.returns-in-Cells-clause-performs
returns-in-Cells-clause-performs g c =
    let is = c.counter_lines.ensures in
    rw (c.in-Some.is, c.in-Cells.is, c.lines-in-Cells.ensures)
    (of_cells (g.L.Loader.loads c.args.loader.now) c.args.control.now (g.C.CellSteps.grew)
    c.args.pass.now c.counter_lines.new.pass c.arrays.result.now c.counter_lines.result
    c.arrays.ensures.arrays is.written is.unwritten)

pub returns-in-Stop-clause-performs : goal.returns-in-Stop-clause-performs
returns-in-Stop-clause-performs g c =
    grows_none (g.C.CellSteps.grew) _ _ (rw (c.in-Some.is, c.in-Stop.is, c.stop.ensures) stopped)
