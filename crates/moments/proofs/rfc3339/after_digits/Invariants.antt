use Rattle.std.proofs.Common.{◌≡◌, length}
use Rattle.moments.specs.Rfc3339 as specs
use Rattle.moments.proofs.rfc3339.after_digits.Given as goal

-- only digits have been passed
abbrev pub invariant-loop-left : goal.invariant-loop-left
invariant-loop-left l = specs.after_digits l.left ≡ specs.after_digits l.text

abbrev pub decreases-loop-left : goal.decreases-loop-left
decreases-loop-left l = length l.left
