use Rattle.diff_space.proofs.Grown.{further, next_text}
use Rattle.diff_space.proofs.grouping.add_number.Goals as goal

pub loop-text-preserved : goal.loop-text-preserved
loop-text-preserved c = record {
  grows =
      further c.args.group.now c.loop-text.group c.add_text.new.group
      c.loop-text.invariant.grows c.in_ok-add_text.ensures.grows;
  has = λ few.
      next_text c.args.family c.args.dimensions.now c.loop-text.group c.add_text.new.group
      c.args.number c.loop-text.text c.in_ok-add_text.ensures.grows
      (c.loop-text.invariant.has few) (c.in_ok-add_text.ensures.has few);
}
