use Rattle.stage_servers.proofs.GoesOn.{in_place}
use Rattle.stage_servers.proofs.surveying.served_by.Goals as goal

pub returns-then-is_in_place : goal.returns-then-is_in_place
returns-then-is_in_place g c =
    in_place (g.D.Disk.known c.args.call.now.disk.now) c.args.call.now.manifest.now c.args.digest
    c.args.place.now.present c.requires (c.is_in_place.ensures c.if-is_in_place.true)
