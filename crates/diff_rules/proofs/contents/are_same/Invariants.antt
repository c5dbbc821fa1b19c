use Rattle.std.proofs.Common.{◌≡◌, length}
use Rattle.diff_rules.specs.Contents.{are_same}
use Rattle.diff_rules.proofs.contents.are_same.Given as goal

-- the remaining ones decide
abbrev pub invariant-loop-left : goal.invariant-loop-left
invariant-loop-left l =
    are_same l.left l.right ≡ are_same l.packages l.others

abbrev pub decreases-loop-left : goal.decreases-loop-left
decreases-loop-left l = length l.left
