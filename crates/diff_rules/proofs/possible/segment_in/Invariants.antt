use Rattle.std.proofs.Common.{◌≡◌, length}
use Rattle.diff_rules.specs.Search.{segment_in}
use Rattle.diff_rules.proofs.possible.segment_in.Given as goal

-- the remaining ones decide
abbrev pub invariant-loop-places : goal.invariant-loop-places
invariant-loop-places l =
    segment_in l.places l.left l.dimension ≡ segment_in l.dimensions l.segments l.dimension

abbrev pub decreases-loop-places : goal.decreases-loop-places
decreases-loop-places l = length l.places
