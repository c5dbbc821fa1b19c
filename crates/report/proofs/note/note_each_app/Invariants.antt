use Rattle.std.proofs.Common.{length}
use Rattle.report.specs.Names.{names_of_apps}
use Rattle.report.specs.Tallies.{Notes}
use Rattle.report.specs.declared.tally.Tally.{Tally}
use Rattle.report.proofs.note.note_each_app.Given as goal

-- counting the remaining apps completes the count
abbrev pub invariant-loop-left : goal.invariant-loop-left
invariant-loop-left l = (last : Tally)
    → Notes l.tally last (names_of_apps l.question l.line l.left)
    → Notes l.fn.tally last (names_of_apps l.question l.line l.apps)

abbrev pub decreases-loop-left : goal.decreases-loop-left
decreases-loop-left l = length l.left
