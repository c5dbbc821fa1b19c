use Rattle.std.proofs.Common.{◌≡◌, length}
use Rattle.std.specs.List.{list_any}
use Rattle.warnings.specs.Releases.{is_empty_file}
use Rattle.warnings.proofs.release.have_empty_file.Given as goal

-- the remaining packages decide
abbrev pub invariant-loop-left : goal.invariant-loop-left
invariant-loop-left l = list_any is_empty_file l.left ≡ list_any is_empty_file l.packages

abbrev pub decreases-loop-left : goal.decreases-loop-left
decreases-loop-left l = length l.left
