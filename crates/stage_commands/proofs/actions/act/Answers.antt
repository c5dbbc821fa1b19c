use Rattle.std.proofs.Common.{◌∙◌, sym}
use Rattle.stage_commands.proofs.Seen.{not_compared, planned, staged}
use Rattle.stage_commands.proofs.actions.act.Goals as goal

pub returns-in-Ok-clause-planned : goal.returns-in-Ok-clause-planned
returns-in-Ok-clause-planned g c =
    planned (g.D.Disk.known c.args.call.now.disk.now) c.args.call.now.manifest.now
    c.args.call.now.options.now (g.F.StageFolder.records c.args.folder.now)
    (g.F.StageFolder.files c.args.folder.now) c.args.action.now
    (sym c.only_looks.ensures ∙ c.if-only_looks.true)

pub returns-in-Ok-clause-done : goal.returns-in-Ok-clause-done
returns-in-Ok-clause-done g c = λ wet.
    staged (g.D.Disk.known c.args.call.now.disk.now) c.args.call.now.manifest.now
    c.args.call.now.options.now (g.F.StageFolder.records c.args.folder.now)
    (g.F.StageFolder.files c.args.folder.now) c.args.action.now
    (sym c.only_looks.ensures ∙ c.if-only_looks.true)

pub returns-in-Ok-clause-unedited : goal.returns-in-Ok-clause-unedited
returns-in-Ok-clause-unedited g c =
    not_compared c.args.call.now.options.now (g.F.StageFolder.records c.args.folder.now)
    (g.F.StageFolder.files c.args.folder.now) c.args.action.now
    (sym c.only_looks.ensures ∙ c.if-only_looks.true)
