use Rattle.std.proofs.Common.{◌≡◌, length}
use Rattle.stage_rules.specs.Thresholds.{rule_with}
use Rattle.stage_rules.proofs.threshold.is_rule_with.Given as goal

-- what is left decides
abbrev pub invariant-loop-left : goal.invariant-loop-left
invariant-loop-left l =
    l.right ≡ rule_with l.number l.left → l.other ≡ rule_with l.number l.rule

abbrev pub decreases-loop-left : goal.decreases-loop-left
decreases-loop-left l = length l.left
