use Rattle.std.proofs.Common.{arith}
use Rattle.simulate.proofs.Written.{move_object_counted, number_further}
use Rattle.simulate.proofs.move_objects.push_moves_from.Goals as goal

pub loop-to-preserved : goal.loop-to-preserved
loop-to-preserved c = record {
  within = omega (arith, c.loop-to-test.true);
  values = number_further _ _ _ _ _ _ c.loop-to-test.true
      (move_object_counted _ _ _ _ _ _ _ _ c.in_ok-push_move_if_any.ensures
      (c.requires.moves c.args.from c.loop-to.to c.requires.from
      (omega (arith, c.loop-to-test.true, c.release_count-last.ensures.few))))
      c.loop-to.invariant.values;
}
