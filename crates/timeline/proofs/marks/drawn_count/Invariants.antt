use Rattle.std.proofs.Common.{◌≡◌, ◌+◌}
use Rattle.timeline.specs.Marks.{drawn_count, drawn_by}
use Rattle.timeline.specs.SeriesRows.{rows_between}
use Rattle.timeline.proofs.marks.drawn_count.Given as goal

-- the count so far and the remaining rows make that of all between the names
abbrev pub invariant-loop-name : goal.invariant-loop-name
invariant-loop-name l =
    l.count + drawn_count l.name-iterator (drawn_by l.drawn)
    ≡ drawn_count (rows_between l.names l.rows.entries) (drawn_by l.drawn)
