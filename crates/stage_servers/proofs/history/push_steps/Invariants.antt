use Rattle.std.proofs.Common.{length}
use Rattle.stage_servers.proofs.history.push_steps.Given as goal

abbrev pub decreases-loop-left : goal.decreases-loop-left
decreases-loop-left g l = length l.left
