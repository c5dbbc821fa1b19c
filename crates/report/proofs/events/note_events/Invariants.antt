use Rattle.std.proofs.Common.{length}
use Rattle.report.specs.Events.{names_of_events}
use Rattle.report.specs.Tallies.{Notes}
use Rattle.report.specs.declared.tally.Tally.{Tally}
use Rattle.report.proofs.events.note_events.Given as goal

-- counting the events of the remaining apps completes the count
abbrev pub invariant-loop-left : goal.invariant-loop-left
invariant-loop-left l = (last : Tally)
    → Notes l.tally last (names_of_events l.question l.left)
    → Notes l.fn.tally last (names_of_events l.question l.apps)

abbrev pub decreases-loop-left : goal.decreases-loop-left
decreases-loop-left l = length l.left
