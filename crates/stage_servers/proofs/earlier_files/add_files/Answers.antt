use Rattle.std.proofs.Common.{arith}
use Rattle.stage_servers.specs.Earlier.{AreNamedAs, file_as, files_as}
use Rattle.stage_servers.proofs.Earlier.{first_rest, next_file}
use Rattle.stage_servers.proofs.earlier_files.add_files.Goals as goal

pub loop-left-preserved : goal.loop-left-preserved
loop-left-preserved c =
    next_file c.args.is_after c.loop-left.files.items c.add_file.new.files.items _
    c.loop-left.left.now c.file-item.result _
    (first_rest c.loop-left.left.now c.file-item.result (omega arith) c.file-item.is)
    c.in_ok-add_file.ensures c.loop-left.invariant
