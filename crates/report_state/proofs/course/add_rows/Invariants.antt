use Rattle.report_state.specs.Courses.{AddsRows}
use Rattle.report.specs.declared.tally.Tally.{Tally}
use Rattle.report_state.proofs.course.add_rows.Given as goal

-- what the remaining rows add, all rows add
abbrev pub invariant-loop-name : goal.invariant-loop-name
invariant-loop-name l = (last : Tally) → AddsRows l.from l.name-iterator l.sum last
    → AddsRows l.from l.rows.entries l.fn.sum last
