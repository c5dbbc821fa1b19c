use Rattle.std.proofs.Common.{◌≡◌, length}
use Rattle.warnings.specs.Spots.{add_statements}
use Rattle.warnings.proofs.spot.add_statements.Given as goal

-- the remaining statements complete the list
abbrev pub invariant-loop-left : goal.invariant-loop-left
invariant-loop-left l =
    add_statements l.spots.items l.left ≡ add_statements l.initial.spots.items l.statements

abbrev pub decreases-loop-left : goal.decreases-loop-left
decreases-loop-left l = length l.left
