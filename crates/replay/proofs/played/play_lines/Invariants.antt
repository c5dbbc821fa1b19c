use Rattle.std.proofs.Common.{length}
use Rattle.replay.proofs.OneRun.{Leads}
use Rattle.replay.proofs.played.play_lines.Given as goal

abbrev pub invariant-loop-left : goal.invariant-loop-left
invariant-loop-left l =
    Leads l.fn.world l.world l.lines l.left l.fn.events l.events l.replies.items

abbrev pub decreases-loop-left : goal.decreases-loop-left
decreases-loop-left l = length l.left
