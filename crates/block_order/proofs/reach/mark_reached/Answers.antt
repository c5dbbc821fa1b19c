use Rattle.block_order.proofs.Marks.{reached_more}
use Rattle.block_order.proofs.reach.mark_reached.Goals as goal

pub loop-place-preserved : goal.loop-place-preserved
loop-place-preserved c = reached_more c.args.code.now c.args.start c.loop-place.marks
    c.in-Some.place c.loop-place.invariant c.in-Some.ensures.some
