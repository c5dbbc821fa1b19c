use Rattle.std.proofs.Common.{◌≡◌, length}
use Rattle.std.specs.List.{list_any}
use Rattle.warnings.specs.Releases.{has_version}
use Rattle.warnings.proofs.release.have_version.Given as goal

-- the remaining releases decide
abbrev pub invariant-loop-left : goal.invariant-loop-left
invariant-loop-left l =
    list_any (has_version l.version) l.left ≡ list_any (has_version l.version) l.later

abbrev pub decreases-loop-left : goal.decreases-loop-left
decreases-loop-left l = length l.left
