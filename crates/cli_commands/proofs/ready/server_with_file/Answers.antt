use Rattle.cli_commands.proofs.Refused.{refused_with}
use Rattle.cli_commands.proofs.ready.server_with_file.Goals as goal

pub returns-in-Err-prepare-clause-fault : goal.returns-in-Err-prepare-clause-fault
returns-in-Err-prepare-clause-fault g c =
    refused_with (g.D.Disk.known c.args.disk.now) c.args.args.now c.args.path
    c.in-Ok.opening.counters c.in-Err-prepare.fault c.requires c.in-Ok.ensures.cells
    c.in-Err-prepare.ensures.refused
