use Rattle.std.proofs.Common.{ℕ, ◌<◌}
use Rattle.std.specs.Prelude.{slice_index}
use Rattle.ceilings.specs.Seats.{IsAt}
use Rattle.kept_cells.specs.Noted.{IsReached}
use Rattle.kept_cells.proofs.ticket_notes.TicketNotes.is_reached.Given as goal

-- the cells so far are reached
abbrev pub invariant-loop-cell : goal.invariant-loop-cell
invariant-loop-cell l = record {
  own : IsAt l.kept l.reader;
  reached : (c : ℕ) → c < l.cell
      → IsReached l.reader.raised c (slice_index l.self.above c) (slice_index l.self.least c);
}
