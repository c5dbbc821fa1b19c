use Rattle.std.proofs.Common.{arith}
use Rattle.stage_folder.proofs.Parts.{opened, restored_left}
use Rattle.stage_folder.proofs.undoing.«+restore».Goals as goal

pub returns-in-Err-clause-failed : goal.returns-in-Err-clause-failed
returns-in-Err-clause-failed g t c =
    let whole = opened c.args.files.now c.file-item.result (omega arith) c.file-item.is in
    restored_left _ _ _ _ _ whole c.in-Err.ensures.failed
