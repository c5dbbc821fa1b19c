use Rattle.std.proofs.Common.{◌≡◌, length}
use Rattle.stage_records.proofs.same_step.are_same_files.Given as goal

-- what is left decides
abbrev pub invariant-loop-left : goal.invariant-loop-left
invariant-loop-left l = l.right ≡ l.left → l.others ≡ l.files

abbrev pub decreases-loop-left : goal.decreases-loop-left
decreases-loop-left l = length l.left
