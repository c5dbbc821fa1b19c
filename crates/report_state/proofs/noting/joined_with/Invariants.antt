use Rattle.std.proofs.Common.{◌≡◌, length}
use Rattle.report_state.specs.Places.{joined_with}
use Rattle.report_state.proofs.noting.joined_with.Given as goal

-- what is left decides
abbrev pub invariant-loop-left : goal.invariant-loop-left
invariant-loop-left l = joined_with l.joined l.left ≡ joined_with l.initial.joined l.others

abbrev pub decreases-loop-left : goal.decreases-loop-left
decreases-loop-left l = length l.left
