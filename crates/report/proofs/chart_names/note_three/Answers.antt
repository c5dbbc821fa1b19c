use Rattle.report.proofs.Tallied.{notes_both}
use Rattle.report.proofs.chart_names.note_three.Goals as goal

pub returns : goal.returns
returns c =
    notes_both _ _ _ _ _
    (notes_both _ _ _ _ _ c.in_ok-note_apps.ensures c.in_ok-note_apps-2.ensures)
    c.in_ok-note_ends.ensures
