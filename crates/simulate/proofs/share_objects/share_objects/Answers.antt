use Rattle.std.proofs.Common.{arith}
use Rattle.simulate.proofs.Written.{number_further, share_counted}
use Rattle.simulate.proofs.share_objects.share_objects.Goals as goal

pub loop-choice-preserved : goal.loop-choice-preserved
loop-choice-preserved c = record {
  within = omega (arith, c.loop-choice-test.true);
  values = number_further _ _ _ _ _ _ c.loop-choice-test.true
      (share_counted _ _ _ _ _ _ c.in_ok-push_share_if_any.ensures
      (c.count_buckets-counts.ensures.counts c.loop-choice.choice
      (omega (arith, c.loop-choice-test.true, c.release_count-count.ensures.few))))
      c.loop-choice.invariant.values;
}
