use Rattle.std.proofs.Common.{length}
use Rattle.stage_servers.proofs.status.«+push_states».Given as goal

abbrev pub decreases-push_states : goal.decreases-push_states
decreases-push_states g l = length l.files.now
