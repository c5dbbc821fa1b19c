use Rattle.std.proofs.Common.{arith}
use Rattle.access_log.proofs.Lanes.{stand_from_lanes}
use Rattle.access_log.proofs.unescaped.plain_8.Goals as goal

pub returns : goal.returns
returns c =
    stand_from_lanes c.args.text.now c.args.at 8 c.requires (omega arith) c.type_inv.text
