use Rattle.std.proofs.Common.{arith}
use Rattle.replay.proofs.OneRun.{begins, goes_on, ends}
use Rattle.replay.proofs.played.play_lines.Goals as goal

pub loop-left-init : goal.loop-left-init
loop-left-init c = rw c.in_ok-replies.ensures.items (begins _ _ _)

pub loop-left-preserved : goal.loop-left-preserved
loop-left-preserved c =
    goes_on c.batches_compose.ensures.join c.args.world.now c.loop-left.world
    c.play_line.new.world c.args.lines.now c.loop-left.left.now c.requested-item.result
    c.args.events.now c.loop-left.events.now c.event-item.result c.loop-left.replies.items
    c.push.new.self.items c.in_ok-reply.reply (omega arith) c.requested-item.is (omega arith)
    c.event-item.is c.in_ok-push.ensures.items c.loop-left.invariant c.in_ok-reply.ensures

pub returns : goal.returns
returns c =
    ends c.args.world.now c.loop-left.world c.args.lines.now c.loop-left.left.now
    c.args.events.now c.loop-left.events.now c.loop-left.replies.items (omega arith)
    (omega arith) c.loop-left.invariant
