use Rattle.std.proofs.Common.{length}
use Rattle.json.specs.Value.{value_view}
use Rattle.report.specs.Borrowed.{data_of}
use Rattle.report_state.specs.States.{HasTables}
use Rattle.report_state.proofs.spelling.has_tables.Given as goal

-- what is left decides
abbrev pub invariant-loop-asked : goal.invariant-loop-asked
invariant-loop-asked l = HasTables (data_of (value_view l.value)) l.asked l.left
    → HasTables (data_of (value_view l.value)) l.questions l.tallies

abbrev pub decreases-loop-asked : goal.decreases-loop-asked
decreases-loop-asked l = length l.asked
