use Rattle.std.proofs.Common.{◌∙◌}
use Rattle.diff_space.proofs.Grown.{cells_more}
use Rattle.diff_space.proofs.combination.cells_of.Goals as goal

pub loop-place-preserved : goal.loop-place-preserved
loop-place-preserved c = λ few.
    c.in_ok-push.ensures.items
    ∙ cells_more c.args.dimensions.now c.args.combination c.args.members.now
    c.loop-place.place-index c.loop-place.cells.items c.cell_or.result c.loop-place-test.true
    (c.loop-place.invariant few) (c.cell_or.ensures few)
