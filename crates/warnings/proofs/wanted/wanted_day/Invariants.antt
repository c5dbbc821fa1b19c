use Rattle.std.proofs.Common.{◌≡◌, length}
use Rattle.warnings.specs.Wanted.{latest_day, wanted_day}
use Rattle.warnings.proofs.wanted.wanted_day.Given as goal

-- the remaining steps decide
abbrev pub invariant-loop-left : goal.invariant-loop-left
invariant-loop-left l = latest_day l.day l.found l.left ≡ wanted_day l.day l.steps

abbrev pub decreases-loop-left : goal.decreases-loop-left
decreases-loop-left l = length l.left
