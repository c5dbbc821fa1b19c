use Rattle.std.proofs.Common.{◌≡◌, ◌++◌, length, map, not}
use Rattle.diff_text.proofs.truth_table.negated_truths.Given as goal

-- the truths so far, and those of the remaining segments
abbrev pub invariant-loop-left : goal.invariant-loop-left
invariant-loop-left l =
    l.negated.items ++ map not l.left ≡ map not l.holds

abbrev pub decreases-loop-left : goal.decreases-loop-left
decreases-loop-left l = length l.left
