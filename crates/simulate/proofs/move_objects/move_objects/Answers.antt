use Rattle.std.proofs.Common.{arith}
use Rattle.simulate.proofs.Written.{number_further}
use Rattle.simulate.proofs.move_objects.move_objects.Goals as goal

pub loop-from-preserved : goal.loop-from-preserved
loop-from-preserved c = record {
  within = omega (arith, c.loop-from-test.true);
  values = number_further _ _ _ _ _ _ c.loop-from-test.true c.in_ok-push_moves_from.ensures
      c.loop-from.invariant.values;
}
