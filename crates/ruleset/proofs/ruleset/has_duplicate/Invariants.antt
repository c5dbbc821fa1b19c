use Rattle.std.proofs.Common.{length}
use Rattle.ruleset.proofs.Found.{EndsIn}
use Rattle.ruleset.proofs.ruleset.has_duplicate.Given as goal

abbrev pub invariant-loop-left : goal.invariant-loop-left
invariant-loop-left l = EndsIn l.left l.apps

abbrev pub decreases-loop-left : goal.decreases-loop-left
decreases-loop-left l = length l.left
