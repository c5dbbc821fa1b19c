use Rattle.std.proofs.Common.{length}
use Rattle.stage_servers.proofs.edits.«+stop_if_some_edited».Given as goal

abbrev pub decreases-stop_if_some_edited : goal.decreases-stop_if_some_edited
decreases-stop_if_some_edited g l = length l.steps.now
