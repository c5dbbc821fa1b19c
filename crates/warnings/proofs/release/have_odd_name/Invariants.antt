use Rattle.std.proofs.Common.{◌≡◌, length}
use Rattle.std.specs.List.{list_any}
use Rattle.warnings.specs.Releases.{has_odd_name}
use Rattle.warnings.proofs.release.have_odd_name.Given as goal

-- the remaining packages decide
abbrev pub invariant-loop-left : goal.invariant-loop-left
invariant-loop-left l = list_any has_odd_name l.left ≡ list_any has_odd_name l.packages

abbrev pub decreases-loop-left : goal.decreases-loop-left
decreases-loop-left l = length l.left
