use Rattle.std.proofs.Common.{◌≡◌, length}
use Rattle.std.specs.List.{list_any}
use Rattle.diff_space.specs.Fits.{names_bucket}
use Rattle.diff_space.proofs.fits.some_names.Given as goal

-- the remaining cohorts decide
abbrev pub invariant-loop-left : goal.invariant-loop-left
invariant-loop-left l =
    list_any (names_bucket l.bucket) l.left ≡ list_any (names_bucket l.bucket) l.texts

abbrev pub decreases-loop-left : goal.decreases-loop-left
decreases-loop-left l = length l.left
