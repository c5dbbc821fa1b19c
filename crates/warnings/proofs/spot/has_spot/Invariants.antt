use Rattle.std.proofs.Common.{◌≡◌, length}
use Rattle.warnings.specs.Spots.{has_spot}
use Rattle.warnings.proofs.spot.has_spot.Given as goal

-- the remaining spots decide
abbrev pub invariant-loop-left : goal.invariant-loop-left
invariant-loop-left l = has_spot l.left l.spot ≡ has_spot l.spots l.spot

abbrev pub decreases-loop-left : goal.decreases-loop-left
decreases-loop-left l = length l.left
