use Rattle.std.proofs.Common.{length}
use Rattle.report.specs.Responses.{names_of_statuses}
use Rattle.report.specs.Tallies.{Notes}
use Rattle.report.specs.declared.tally.Tally.{Tally}
use Rattle.report.proofs.responses.note_each.Given as goal

-- counting the remaining statuses completes the count
abbrev pub invariant-loop-left : goal.invariant-loop-left
invariant-loop-left l = (last : Tally)
    → Notes l.tally last (names_of_statuses l.left)
    → Notes l.fn.tally last (names_of_statuses l.responses)

abbrev pub decreases-loop-left : goal.decreases-loop-left
decreases-loop-left l = length l.left
