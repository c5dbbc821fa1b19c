use Rattle.std.proofs.Common.{◌≡◌, length}
use Rattle.warnings.specs.Course.{first_offer}
use Rattle.warnings.specs.Possible.{test_possible}
use Rattle.warnings.proofs.course.first_offer.Given as goal

-- the remaining statements decide
abbrev pub invariant-loop-left : goal.invariant-loop-left
invariant-loop-left l =
    first_offer (test_possible l.clients l.attrs l.shape) l.left
    ≡ first_offer (test_possible l.clients l.attrs l.shape) l.statements

abbrev pub decreases-loop-left : goal.decreases-loop-left
decreases-loop-left l = length l.left
