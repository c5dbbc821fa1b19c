use Rattle.std.proofs.Common.{ℕ, subst, arith}
use Rattle.cells.specs.Events.{event}
use Rattle.cells.specs.declared.event.CellOp.TheVariants.{Load}
use Rattle.operator.proofs.Counted.{no_cells, next_cell, loaded_cell}
use Rattle.operator.proofs.reply_lines.tell_cells.Goals as goal

pub loop-index-init : goal.loop-index-init
loop-index-init g c = (c.requires.belongs, omega arith, no_cells (g.C.CellSteps.grew) _ _ _)

pub loop-index-preserved : goal.loop-index-preserved
loop-index-preserved g c =
    let At : ℕ → Type 0 = λ n. g.C.CellSteps.grew c.loop-index.pass
    (event n Load c.act-value.result) c.act-value.new.pass in
    let step = subst At c.new-cell.ensures c.act-value.ensures.grew in (
      c.act-value.ensures.belongs,
      omega (arith, c.loop-index-test.true),
      next_cell (g.C.CellSteps.grew) _ _ _ _ _ _ _ _ _ c.growth.ensures.snoc
          c.loop-index.invariant.2 step c.in-Ok.ensures,
    )

pub returns-in_default-clause-unwritten : goal.returns-in_default-clause-unwritten
returns-in_default-clause-unwritten g c =
    let At : ℕ → Type 0 = λ n. g.C.CellSteps.grew c.loop-index.pass
    (event n Load c.act-value.result) c.act-value.new.pass in
    let step = subst At c.new-cell.ensures c.act-value.ensures.grew in
    loaded_cell (g.C.CellSteps.grew) _ _ _ _ _ _ _ _ c.growth.ensures.snoc
    c.loop-index.invariant.2 step
