use Rattle.std.proofs.Common.{arith}
use Rattle.stage_commands.proofs.Put.{first_rest, next_of}
use Rattle.stage_commands.proofs.put_files.app_files.Goals as goal

pub loop-left-preserved : goal.loop-left-preserved
loop-left-preserved g c =
    next_of _ c.args.apps.now c.loop-left.left.now _ c.app-item.result c.loop-left.files.items _
    c.loop-left.invariant
    (first_rest c.loop-left.left.now c.app-item.result (omega arith) c.app-item.is)
    c.in_ok-add_app_file.ensures
