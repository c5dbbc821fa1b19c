use Rattle.std.proofs.Common.{List, ◌++◌, take, drop}
use Rattle.report.specs.Counts.{NotesEach}
use Rattle.report.specs.Questions.{names_of}
use Rattle.report.specs.declared.tally.Tally.{Tally}
use Rattle.report.proofs.note.note_each.Given as goal

-- counting in the remaining tables completes the count
abbrev pub invariant-loop-place : goal.invariant-loop-place
invariant-loop-place l = (last : List Tally)
    → NotesEach (λ q. names_of l.drawn q l.line) l.left (drop l.place l.tallies) last
    → NotesEach (λ q. names_of l.drawn q l.line) l.questions l.fn.tallies
    (take l.place l.tallies ++ last)
