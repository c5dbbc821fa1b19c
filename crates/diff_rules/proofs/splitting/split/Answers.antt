use Rattle.std.proofs.Common.{arith, option_map}
use Rattle.diff_rules.proofs.Covered.{split_none, split_one}
use Rattle.diff_rules.proofs.splitting.split.Goals as goal

pub loop-segment-init : goal.loop-segment-init
loop-segment-init c = (omega arith, split_none _ _ _ _ _)

pub loop-segment-preserved : goal.loop-segment-preserved
loop-segment-preserved c = (
  omega arith,
  split_one (option_map (λ marks. marks.items) c.args.possible.now) c.args.partial.now
      c.args.dimension c.args.segments _ _ _ _ _
      (omega arith) c.loop-segment.invariant.1 c.in_ok-add_segment.ensures.kept
      c.in_ok-add_segment.ensures.here,
)
