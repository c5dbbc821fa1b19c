use Rattle.std.proofs.Common.{◌∙◌, ap, subst, Ok}
use Rattle.bounded_files.specs.Files.{ReadsAtMost, regular_files}
use Rattle.cli_manifests.proofs.check.check_file.Goals as goal

-- every longer manifest has this fault, so this one does
pub returns-in-Ok-None-clause-fault : goal.returns-in-Ok-None-clause-fault
returns-in-Ok-None-clause-fault g c =
    let known = regular_files (g.D.Disk.known c.args.disk.now) in
    let longer = subst (λ r. ReadsAtMost 1048576 known c.args.path.now r)
    (c.in-Ok-None.is ∙ ap Ok c.in-Ok-None.field-0-is) c.read_regular.ensures in
    record {
      bytes = longer.0;
      given = longer.1;
      holds = c.too_long.ensures _ longer.0 longer.2;
    }
