use Rattle.std.proofs.Common.{refl, sym, subst, ◌∙◌}
use Rattle.block_order.specs.Reach.{IsReachedSo}
use Rattle.block_order.proofs.Marks.{reached_start}
use Rattle.block_order.proofs.reach.reached_from.Goals as goal

pub mark_reached-requires-clause-start : goal.mark_reached-requires-clause-start
mark_reached-requires-clause-start c =
    subst (IsReachedSo c.args.code.now c.args.start)
    (sym (c.deref_mut.ensures.value ∙ c.in_ok-marks.ensures))
    (reached_start c.args.code.now c.args.start _ c.requires.start refl)
