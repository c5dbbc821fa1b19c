use Rattle.std.proofs.Common.{length}
use Rattle.stage_servers.proofs.edits.«+stop_unless_all_left».Given as goal

abbrev pub decreases-stop_unless_all_left : goal.decreases-stop_unless_all_left
decreases-stop_unless_all_left g l = length l.files.now
