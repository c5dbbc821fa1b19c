use Rattle.kept_cells.proofs.Noting.{one_more}
use Rattle.kept_cells.proofs.ticket_notes.TicketNotes.note.Goals as goal

pub returns : goal.returns
returns c events notes =
    one_more c.args.self.now c.note_event.new.self events _ notes c.note_event.ensures
