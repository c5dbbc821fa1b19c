use Rattle.std.proofs.Common.{subst}
use Rattle.std.specs.Prelude.{IfSome}
use Rattle.stage_commands.specs.Backs.{IsRestorable, UndoingLiftsNone}
use Rattle.stage_commands.proofs.Left.{on_ok, on_ok_of}
use Rattle.stage_commands.proofs.backs.compare_last.Goals as goal

pub returns-in-Ok-clause-lifts_none : goal.returns-in-Ok-clause-lifts_none
returns-in-Ok-clause-lifts_none g c = on_ok c.compare_restored.result _ _
    (λ lifts plain. subst (λ o. IfSome o (UndoingLiftsNone
    (g.D.Disk.known c.args.call.now.disk.now) c.args.call.now.manifest.now c.args.steps.now))
    c.in-Some.ensures (lifts plain)) c.compare_restored.ensures

pub returns-in-Ok-clause-unedited : goal.returns-in-Ok-clause-unedited
returns-in-Ok-clause-unedited g c = on_ok_of c.compare_restored.result _
    (subst (λ o. IfSome o (IsRestorable (g.F.StageFolder.files c.args.folder.now)))
    c.in-Some.ensures
    c.in-Ok.ensures)
