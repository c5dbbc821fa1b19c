use Rattle.std.proofs.Common.{rules, ◌≡◌}
use Rattle.load.specs.Folder.{files_in_folder}
use Rattle.load.specs.Made.{IsMadeOver}
use Rattle.load.proofs.Causes.{no_cause}
use Rattle.load.proofs.Making.{from_path}
use Rattle.load.proofs.path.load_with_digest.Goals as goal

pub returns-in-Err-clause-loads : goal.returns-in-Err-clause-loads
returns-in-Err-clause-loads g c =
    no_cause (g.D.Disk.known c.args.disk.now) c.args.path.now c.args.directory.now c.in-Err.fault
    (c.in-Err.ensures.fault c.args.directory.now)

pub returns-in-Ok-load_bytes-clause-loads : goal.returns-in-Ok-load_bytes-clause-loads
returns-in-Ok-load_bytes-clause-loads g c =
    let known = g.D.Disk.known c.args.disk.now in
    let bytes = c.deref.result.now in
    let same : bytes ≡ c.in-Ok.bytes.items = search rules in
    let over : IsMadeOver (files_in_folder known c.args.path.now) c.args.directory.now bytes
    c.in-Ok-load_bytes.made = search rules in
    from_path known c.args.path.now c.args.directory.now bytes c.in-Ok.bytes.items
    c.in-Ok-load_bytes.made same c.in-Ok.ensures.given over
