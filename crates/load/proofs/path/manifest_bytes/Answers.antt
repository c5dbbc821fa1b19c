use Rattle.bounded_files.specs.Files.{HasMore, regular_files}
use Rattle.load.specs.Load.{of_bytes}
use Rattle.load.proofs.path.manifest_bytes.Goals as goal

pub returns-in-Ok-None-clause-fault : goal.returns-in-Ok-None-clause-fault
returns-in-Ok-None-clause-fault g c =
    let more : HasMore 1048576 (regular_files (g.D.Disk.known c.args.disk.now)) c.args.path.now =
    rw c.in-Ok-None.field-0-is at c.in-Ok-None.ensures in
    λ old. (more.0, more.1, of_bytes more.2)
