use Rattle.stage_commands.proofs.Left.{restored_by}
use Rattle.stage_commands.proofs.undoing.undo_step.Goals as goal

pub returns-in-Err-note_undone-clause-stopped : goal.returns-in-Err-note_undone-clause-stopped
returns-in-Err-note_undone-clause-stopped g c =
    restored_by c.in-Err-note_undone.stop c.args.step.now _ _ _ _ _ _
    c.in-Err-note_undone.ensures.says c.in_default.ensures.restored c.in_default.ensures.records
    c.in-Err-note_undone.ensures.failed c.in-Err-note_undone.ensures.files
