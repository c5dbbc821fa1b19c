use Rattle.std.proofs.Common.{length, map, string_bytes}
use Rattle.stage_servers.proofs.Halted.{AreSoFar}
use Rattle.stage_servers.proofs.halts_in_force.halts_in_force.Given as goal

abbrev pub invariant-loop-left : goal.invariant-loop-left
invariant-loop-left l = AreSoFar l.steps l.apps (map string_bytes l.appids.items) l.left

abbrev pub decreases-loop-left : goal.decreases-loop-left
decreases-loop-left l = length l.left
