use Rattle.std.proofs.Common.{◌≡◌, length}
use Rattle.diff_rules.specs.Search.{fits}
use Rattle.diff_rules.proofs.possible.fits.Given as goal

-- the remaining ones decide
abbrev pub invariant-loop-places : goal.invariant-loop-places
invariant-loop-places l =
    fits l.places l.left l.partial ≡ fits l.dimensions l.segments l.partial

abbrev pub decreases-loop-places : goal.decreases-loop-places
decreases-loop-places l = length l.places
