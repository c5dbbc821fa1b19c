use Rattle.stage_commands.proofs.Left.{left_taken, next_step}
use Rattle.stage_commands.proofs.taking.take_step.Goals as goal

pub returns-in-Err-taken-clause-stopped : goal.returns-in-Err-taken-clause-stopped
returns-in-Err-taken-clause-stopped g c = let is = c.in-Ok.ensures in
    left_taken _ _ _ _ c.in-Ok.step _ _ _ _
    (next_step _ _ _ _ c.args.number c.args.files.items c.in-Ok.step c.requires.is_new
    c.requires.found c.requires.changes is.number is.action is.user is.because is.files
    is.not_undone)
    c.in-Err-taken.ensures.stopped
