use Rattle.report.proofs.Tallied.{notes_both}
use Rattle.report.proofs.responses.note_responses.Goals as goal

pub returns : goal.returns
returns c = notes_both _ _ _ _ _ c.in_ok-note_statuses.ensures c.in_ok-note_dropped.ensures
