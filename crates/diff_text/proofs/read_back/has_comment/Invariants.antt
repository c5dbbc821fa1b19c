use Rattle.std.proofs.Common.{◌≡◌, false, length}
use Rattle.diff_text.specs.Conditions.{has_comment}
use Rattle.diff_text.proofs.read_back.has_comment.Given as goal

-- the remaining bytes decide
abbrev pub invariant-loop-left : goal.invariant-loop-left
invariant-loop-left l =
    has_comment l.quoted l.left ≡ has_comment false l.text

abbrev pub decreases-loop-left : goal.decreases-loop-left
decreases-loop-left l = length l.left
