use Rattle.std.proofs.Common.{◌≡◌, length}
use Rattle.timeline.specs.Marks.{drawn_by}
use Rattle.timeline.specs.SeriesRows.{rows_between}
use Rattle.timeline.proofs.Raised.{raised_each}
use Rattle.timeline.proofs.counts.raise.Given as goal

-- the numbers so far, raised by the remaining rows, are those raised by all between the names
abbrev pub invariant-loop-name : goal.invariant-loop-name
invariant-loop-name l = record {
  each : raised_each l.bins (drawn_by l.drawn) l.name-iterator l.numbers
      ≡ raised_each l.bins (drawn_by l.drawn) (rows_between l.names l.rows.entries) l.fn.numbers;
  all : length l.numbers ≡ length l.fn.numbers;
}
