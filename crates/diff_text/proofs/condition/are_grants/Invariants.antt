use Rattle.std.proofs.Common.{◌≡◌, length}
use Rattle.diff_text.specs.Shown.{are_grants}
use Rattle.diff_text.proofs.condition.are_grants.Given as goal

-- the remaining sets decide
abbrev pub invariant-loop-left : goal.invariant-loop-left
invariant-loop-left l =
    are_grants l.dimensions l.left ≡ are_grants l.dimensions l.sets

abbrev pub decreases-loop-left : goal.decreases-loop-left
decreases-loop-left l = length l.left
