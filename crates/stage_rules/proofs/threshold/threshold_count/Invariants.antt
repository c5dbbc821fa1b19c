use Rattle.std.proofs.Common.{◌≡◌, ◌+◌, ◌≤◌, length, min}
use Rattle.stage_rules.specs.Thresholds as specs
use Rattle.stage_rules.proofs.threshold.threshold_count.Given as goal

-- those so far, with those that are left
abbrev pub invariant-loop-left : goal.invariant-loop-left
invariant-loop-left l =
    (min (l.count + specs.threshold_count l.left) 2 ≡ min (specs.threshold_count l.rule) 2)
    × (l.count ≤ 2)

abbrev pub decreases-loop-left : goal.decreases-loop-left
decreases-loop-left l = length l.left
