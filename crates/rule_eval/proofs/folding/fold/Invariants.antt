use Rattle.std.proofs.Common.{length, reverse}
use Rattle.rule_eval.specs.Folds.{HaveMade}
use Rattle.rule_eval.proofs.folding.fold.Given as goal

-- the steps so far have made the parts
abbrev pub invariant-loop-left : goal.invariant-loop-left
invariant-loop-left g l =
    HaveMade (g.F.ConditionFold.evaluates l.by) l.initial.state l.condition l.left
    (reverse l.parts.items) l.state

abbrev pub decreases-loop-left : goal.decreases-loop-left
decreases-loop-left g l = length l.left
