use Rattle.std.proofs.Common.{◌≡◌, ◌++◌, length}
use Rattle.diff_text.specs.Tables.{join_by, pairwise}
use Rattle.diff_text.proofs.truth_table.joined_truths.Given as goal

-- the truths so far, and those of the remaining segments
abbrev pub invariant-loop-left : goal.invariant-loop-left
invariant-loop-left l =
    l.joined.items ++ pairwise (join_by l.is_and) l.left l.right
    ≡ pairwise (join_by l.is_and) l.first l.second

abbrev pub decreases-loop-left : goal.decreases-loop-left
decreases-loop-left l = length l.left
