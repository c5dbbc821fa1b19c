use Rattle.std.proofs.Common.{◌≡◌, ◌+◌, length}
use Rattle.stage_commands.proofs.warned.warnings_of.Given as goal

abbrev pub invariant-loop-left : goal.invariant-loop-left
invariant-loop-left l = l.number + length l.left ≡ 1 + length l.apps

abbrev pub decreases-loop-left : goal.decreases-loop-left
decreases-loop-left l = length l.left
