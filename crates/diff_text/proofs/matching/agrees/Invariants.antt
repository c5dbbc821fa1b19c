use Rattle.std.proofs.Common.{◌≡◌, ◌+◌, length}
use Rattle.diff_text.specs.Tables.{agrees}
use Rattle.diff_text.proofs.matching.agrees.Given as goal

-- the remaining truths decide, after those of `segment` segments
abbrev pub invariant-loop-left : goal.invariant-loop-left
invariant-loop-left l =
    (agrees l.segments l.segment l.left ≡ agrees l.segments 0 l.holds)
    × (l.segment + length l.left ≡ length l.holds)

abbrev pub decreases-loop-left : goal.decreases-loop-left
decreases-loop-left l = length l.left
