use Rattle.stage_commands.proofs.Replacing.{gone_back, left_undone, plans_back}
use Rattle.stage_commands.proofs.backs.go_back.Goals as goal

pub returns-in-Ok-gone_back-clause-done : goal.returns-in-Ok-gone_back-clause-done
returns-in-Ok-gone_back-clause-done g c = λ wet.
    let lifts = rw c.deref.ensures.value at c.in_default.ensures.lifts_none in
    gone_back (g.D.Disk.known c.args.call.now.disk.now) c.args.call.now.manifest.now
    c.args.call.now.options.now.anyway _ _ _ _ c.in-Ok.recorded _ c.in-Ok.ensures
    c.in-Some.ensures lifts c.in-Ok-gone_back.ensures.unedited
    (c.in-Ok-gone_back.ensures.done wet)

pub returns-in-Ok-gone_back-clause-planned : goal.returns-in-Ok-gone_back-clause-planned
returns-in-Ok-gone_back-clause-planned g c =
    let lifts = rw c.deref.ensures.value at c.in_default.ensures.lifts_none in
    plans_back (g.D.Disk.known c.args.call.now.disk.now) c.args.call.now.manifest.now
    c.args.call.now.options.now.anyway _ _ c.in-Ok.recorded _ c.in-Ok.ensures
    c.in-Some.ensures lifts c.in-Ok-gone_back.ensures.unedited

pub returns-clause-stopped : goal.returns-clause-stopped
returns-clause-stopped g c =
    let lifts = rw c.deref.ensures.value at c.in_default.ensures.lifts_none in
    let unedited = rw c.deref.ensures.value at c.in_default.ensures.unedited in
    left_undone (g.D.Disk.known c.args.call.now.disk.now) c.args.call.now.manifest.now
    c.args.call.now.options.now.anyway c.in-Err-gone_back.stop _ _ _ _ c.in-Ok.recorded _
    c.in-Ok.ensures c.in-Some.ensures lifts unedited c.in-Err-gone_back.ensures.stopped
