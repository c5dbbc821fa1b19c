use Rattle.std.proofs.Common.{length}
use Rattle.stage_folder.proofs.Numbers.{GoesOn}
use Rattle.stage_folder.proofs.numbering.number_after.Given as goal

abbrev pub invariant-loop-left : goal.invariant-loop-left
invariant-loop-left l = GoesOn l.numbers l.next l.left

abbrev pub decreases-loop-left : goal.decreases-loop-left
decreases-loop-left l = length l.left
