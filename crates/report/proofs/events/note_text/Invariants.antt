use Rattle.std.proofs.Common.{length}
use Rattle.report.specs.Events.{names_after, names_in_text}
use Rattle.report.specs.Objects.{json_place}
use Rattle.report.specs.Tallies.{Notes}
use Rattle.report.specs.declared.tally.Tally.{Tally}
use Rattle.report.proofs.events.note_text.Given as goal

-- counting the objects that end in the remaining text completes the count
abbrev pub invariant-loop-left : goal.invariant-loop-left
invariant-loop-left l = (last : Tally)
    → Notes l.tally last
    (names_after l.question l.app l.appid (json_place l.reader) l.left)
    → Notes l.fn.tally last (names_in_text l.question l.app l.appid l.text)

abbrev pub decreases-loop-left : goal.decreases-loop-left
decreases-loop-left l = length l.left
