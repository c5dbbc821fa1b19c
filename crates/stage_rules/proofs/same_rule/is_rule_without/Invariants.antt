use Rattle.std.proofs.Common.{◌≡◌, length}
use Rattle.stage_rules.specs.ReleaseHalts.{without}
use Rattle.stage_rules.proofs.same_rule.is_rule_without.Given as goal

-- what is left decides
abbrev pub invariant-loop-left : goal.invariant-loop-left
invariant-loop-left l = l.right ≡ without l.releases l.version l.left
    → l.other ≡ without l.releases l.version l.rule

abbrev pub decreases-loop-left : goal.decreases-loop-left
decreases-loop-left l = length l.left
