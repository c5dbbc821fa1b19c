use Rattle.std.proofs.Common.{◌≡◌, length}
use Rattle.why_choice.specs.Parts.{given_back}
use Rattle.why_choice.proofs.part.give_back.Given as goal

-- undoing the remaining takes completes the undoing
abbrev pub invariant-loop-one : goal.invariant-loop-one
invariant-loop-one l =
    given_back l.left.items l.counters ≡ given_back l.fn.taken.items l.initial.counters

abbrev pub decreases-loop-one : goal.decreases-loop-one
decreases-loop-one l = length l.left.items
