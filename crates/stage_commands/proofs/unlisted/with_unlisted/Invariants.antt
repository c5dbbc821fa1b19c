use Rattle.std.proofs.Common.{length, map, string_bytes}
use Rattle.stage_commands.proofs.UnlistedHalts.{AreSoFar}
use Rattle.stage_commands.proofs.unlisted.with_unlisted.Given as goal

abbrev pub invariant-loop-left : goal.invariant-loop-left
invariant-loop-left l = AreSoFar l.steps l.current l.next (map string_bytes l.named.items) l.left

abbrev pub decreases-loop-left : goal.decreases-loop-left
decreases-loop-left l = length l.left
