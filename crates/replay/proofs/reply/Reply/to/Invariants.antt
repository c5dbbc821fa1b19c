use Rattle.std.proofs.Common.{◌≡◌, ◌+◌, ◌≤◌, length}
use Rattle.std.specs.List.{fold}
use Rattle.replay.specs.Replies.{reply_to, with_answer}
use Rattle.replay.proofs.reply.Reply.to.Given as goal

-- the reply so far, with the results that are left, gives the reply for all
abbrev pub invariant-loop-left : goal.invariant-loop-left
invariant-loop-left l = record {
  all : fold with_answer l.reply l.left ≡ reply_to l.counted l.answers;
  few : l.reply.done + length l.left ≤ length l.answers;
}

abbrev pub decreases-loop-left : goal.decreases-loop-left
decreases-loop-left l = length l.left
