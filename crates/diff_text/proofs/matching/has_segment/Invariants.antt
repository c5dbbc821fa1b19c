use Rattle.std.proofs.Common.{◌≡◌, length}
use Rattle.diff_rules.specs.Rows.{has_segment}
use Rattle.diff_text.proofs.matching.has_segment.Given as goal

-- the remaining segments decide
abbrev pub invariant-loop-left : goal.invariant-loop-left
invariant-loop-left l =
    has_segment l.left l.segment ≡ has_segment l.segments l.segment

abbrev pub decreases-loop-left : goal.decreases-loop-left
decreases-loop-left l = length l.left
