use Rattle.json.specs.Value.{items_view}
use Rattle.report.specs.Borrowed.{items_data}
use Rattle.report_state.specs.States.{AreRows}
use Rattle.report_state.proofs.spelling.are_rows.Given as goal

-- what is left decides
abbrev pub invariant-loop-name : goal.invariant-loop-name
invariant-loop-name l =
    AreRows (items_data (items_view l.left)) l.name-iterator
    → AreRows (items_data (items_view l.values)) l.rows.entries
