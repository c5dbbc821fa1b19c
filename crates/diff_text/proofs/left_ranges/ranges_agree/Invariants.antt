use Rattle.std.proofs.Common.{◌≡◌, ◌+◌, length, map}
use Rattle.diff_text.specs.Grants.{have_number}
use Rattle.diff_text.specs.Tables.{agrees}
use Rattle.diff_text.proofs.left_ranges.ranges_agree.Given as goal

-- the remaining starts decide, after those of `segment` segments
abbrev pub invariant-loop-left : goal.invariant-loop-left
invariant-loop-left l =
    (agrees l.segments l.segment (map (have_number l.ranges) l.left)
    ≡ agrees l.segments 0 (map (have_number l.ranges) l.starts))
    × (l.segment + length l.left ≡ length l.starts)

abbrev pub decreases-loop-left : goal.decreases-loop-left
decreases-loop-left l = length l.left
