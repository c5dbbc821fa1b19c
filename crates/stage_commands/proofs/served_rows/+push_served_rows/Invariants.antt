use Rattle.std.proofs.Common.{length}
use Rattle.stage_commands.proofs.served_rows.«+push_served_rows».Given as goal

abbrev pub decreases-push_served_rows : goal.decreases-push_served_rows
decreases-push_served_rows g l = length l.servers.now
