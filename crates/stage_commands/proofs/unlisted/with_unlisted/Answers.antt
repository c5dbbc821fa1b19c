use Rattle.std.proofs.Common.{arith}
use Rattle.stage_commands.proofs.UnlistedHalts.{further_in}
use Rattle.stage_commands.proofs.unlisted.with_unlisted.Goals as goal

pub loop-left-preserved : goal.loop-left-preserved
loop-left-preserved c =
    further_in c.args.steps.now c.args.current.now c.args.next.now _ _ c.step-item.result
    c.loop-left.left.now (omega arith) c.step-item.is c.in_ok-push_unlisted.ensures
    c.loop-left.invariant
