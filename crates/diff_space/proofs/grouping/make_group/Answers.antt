use Rattle.std.proofs.Common.{length, ◌∙◌}
use Rattle.diff_space.specs.Families.{texts_at}
use Rattle.diff_space.proofs.Grown.{next_number}
use Rattle.diff_space.proofs.grouping.make_group.Goals as goal

pub loop-number-preserved : goal.loop-number-preserved
loop-number-preserved c = record {
  dimensions = c.in_ok-add_number.ensures.grows.dimensions ∙ c.loop-number.invariant.dimensions;
  has = λ few.
      next_number c.args.family c.args.dimensions.now c.loop-number.group c.add_number.new.group
      c.loop-number.number (length (texts_at c.args.dimensions.now c.args.family.text))
      c.in_ok-add_number.ensures.grows (c.loop-number.invariant.has few)
      (c.in_ok-add_number.ensures.has few);
}
