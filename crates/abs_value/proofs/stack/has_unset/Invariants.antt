use Rattle.std.proofs.Common.{◌≡◌}
use Rattle.abs_value.specs.Stack.{has_unset}
use Rattle.abs_value.proofs.stack.has_unset.Given as goal

-- the result for the bytes so far
abbrev pub invariant-loop-i : goal.invariant-loop-i
invariant-loop-i l = l.found ≡ has_unset l.stack l.place l.i
