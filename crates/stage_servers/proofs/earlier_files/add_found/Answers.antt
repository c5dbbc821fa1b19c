use Rattle.std.proofs.Common.{arith, false}
use Rattle.stage_servers.specs.Earlier.{files_if_done}
use Rattle.stage_servers.proofs.Earlier.{first_rest, first_step}
use Rattle.stage_servers.proofs.earlier_files.add_found.Goals as goal

pub loop-left-preserved : goal.loop-left-preserved
loop-left-preserved c =
    first_step (files_if_done false) c.loop-left.files.items c.add_if_done.new.files.items _
    c.loop-left.left.now c.step-item.result _
    (first_rest c.loop-left.left.now c.step-item.result (omega arith) c.step-item.is)
    c.in_ok-add_if_done.ensures c.loop-left.invariant
