use Rattle.std.proofs.Common.{◌≡◌, length}
use Rattle.warnings.specs.Wanted.{wanted_text}
use Rattle.warnings.proofs.wanted.wanted_text.Given as goal

-- the remaining steps decide
abbrev pub invariant-loop-left : goal.invariant-loop-left
invariant-loop-left l = wanted_text l.name l.left ≡ wanted_text l.name l.steps

abbrev pub decreases-loop-left : goal.decreases-loop-left
decreases-loop-left l = length l.left
