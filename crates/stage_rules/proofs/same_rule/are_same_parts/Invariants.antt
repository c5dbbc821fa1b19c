use Rattle.std.proofs.Common.{◌≡◌, length}
use Rattle.stage_rules.proofs.same_rule.are_same_parts.Given as goal

-- what is left decides
abbrev pub invariant-loop-left : goal.invariant-loop-left
invariant-loop-left l = l.right ≡ l.left → l.others ≡ l.parts

abbrev pub decreases-loop-left : goal.decreases-loop-left
decreases-loop-left l = length l.left
