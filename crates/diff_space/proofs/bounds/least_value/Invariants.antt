use Rattle.std.proofs.Common.{◌≡◌, length}
use Rattle.diff_space.specs.Scopes.{least_value, value_after}
use Rattle.diff_space.proofs.bounds.least_value.Given as goal

-- the remaining cells decide, and otherwise the value so far
abbrev pub invariant-loop-left : goal.invariant-loop-left
invariant-loop-left l =
    value_after l.value l.left l.name l.index ≡ least_value l.used l.name l.index

abbrev pub decreases-loop-left : goal.decreases-loop-left
decreases-loop-left l = length l.left
