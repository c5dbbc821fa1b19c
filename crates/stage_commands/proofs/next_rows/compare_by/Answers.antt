use Rattle.stage_commands.proofs.Accepted.{accepted_with}
use Rattle.stage_commands.proofs.next_rows.compare_by.Goals as goal

pub returns-in-Ok-compare : goal.returns-in-Ok-compare
returns-in-Ok-compare g c =
    let judged = rw c.deref-2.ensures.value at c.in-Ok-next.ensures.accepted in
    accepted_with (g.D.Disk.known c.args.call.now.disk.now) c.args.call.now.manifest.now
    c.args.file.now c.args.collected c.in-Ok-next.new c.requires judged
