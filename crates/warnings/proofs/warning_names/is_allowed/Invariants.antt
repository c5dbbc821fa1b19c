use Rattle.std.proofs.Common.{◌≡◌, length}
use Rattle.warnings.specs.Names.{is_allowed}
use Rattle.warnings.proofs.warning_names.is_allowed.Given as goal

-- the remaining names decide
abbrev pub invariant-loop-left : goal.invariant-loop-left
invariant-loop-left l = is_allowed l.left l.warning ≡ is_allowed l.allowed l.warning

abbrev pub decreases-loop-left : goal.decreases-loop-left
decreases-loop-left l = length l.left
