use Rattle.std.proofs.Common.{rules}
use Rattle.cells.specs.declared.array.ArrayNo.{ArrayNo}
use Rattle.cells.proofs.Shapes.{numbered_next}
use Rattle.cells.proofs.shape.numbered.Goals as goal

pub loop-number-preserved : goal.loop-number-preserved
loop-number-preserved c =
    let none : ArrayNo = record { number = 0 } in
    numbered_next c.args.arrays.now c.args.numbers.now c.loop-number.kept.items
    c.push.new.self.items c.loop-number.number-index none c.index-arrays-number.result
    c.loop-number-test.true (search rules) c.index-arrays-number.is c.loop-number.invariant
    (search rules)
