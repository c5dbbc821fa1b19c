use Rattle.std.proofs.Common.{◌≡◌, length}
use Rattle.diff_text.specs.Grants.{have_number}
use Rattle.diff_text.proofs.left_ranges.have_number.Given as goal

-- the remaining ranges decide
abbrev pub invariant-loop-left : goal.invariant-loop-left
invariant-loop-left l =
    have_number l.left l.number ≡ have_number l.ranges l.number

abbrev pub decreases-loop-left : goal.decreases-loop-left
decreases-loop-left l = length l.left
