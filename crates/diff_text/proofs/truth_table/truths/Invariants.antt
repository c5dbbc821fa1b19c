use Rattle.std.proofs.Common.{◌≡◌, ◌++◌, length}
use Rattle.diff_text.specs.Tables.{truths}
use Rattle.diff_text.proofs.truth_table.truths.Given as goal

-- the truths so far, and those of the remaining segments
abbrev pub invariant-loop-left : goal.invariant-loop-left
invariant-loop-left l =
    l.holds.items ++ truths l.compared l.left ≡ truths l.compared l.starts

abbrev pub decreases-loop-left : goal.decreases-loop-left
decreases-loop-left l = length l.left
