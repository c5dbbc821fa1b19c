use Rattle.operator.proofs.Counted.{grows_none, next_array, loaded_array, within_cells}
use Rattle.operator.specs.Counters.{no_array}
use Rattle.operator.proofs.reply_lines.counter_lines.Goals as goal

pub loop-array-init : goal.loop-array-init
loop-array-init g c =
    (c.requires.belongs, grows_none (g.C.CellSteps.grew) _ _ (rw c.new-text.ensures.bytes no_array))

pub tell_cells-requires-clause-within : goal.tell_cells-requires-clause-within
tell_cells-requires-clause-within g c =
    within_cells c.args.arrays.now c.loop-array.array-index c.array-item.result
    c.requires.directory c.loop-array-test.true c.array-item.is

pub loop-array-preserved : goal.loop-array-preserved
loop-array-preserved g c = (
  c.tell_cells.ensures.belongs,
  next_array (g.C.CellSteps.grew) _ _ _ _ _ _ _ _ c.growth.ensures.append c.loop-array-test.true
      c.array-item.is c.loop-array.invariant.1 c.in-Ok.ensures.written,
)

pub returns-in_default-clause-unwritten : goal.returns-in_default-clause-unwritten
returns-in_default-clause-unwritten g c =
    loaded_array (g.C.CellSteps.grew) _ _ _ _ _ c.growth.ensures.append c.loop-array.invariant.1
    c.in_default.ensures.unwritten
