use Rattle.std.proofs.Common.{◌≡◌, length}
use Rattle.report_state.specs.Places.{begins_with}
use Rattle.report_state.proofs.noting.begins_with.Given as goal

-- what is left decides
abbrev pub invariant-loop-left : goal.invariant-loop-left
invariant-loop-left l = begins_with l.text l.left ≡ begins_with l.bytes l.beginning

abbrev pub decreases-loop-left : goal.decreases-loop-left
decreases-loop-left l = length l.left
