use Rattle.std.proofs.Common.{◌≡◌, ◌+◌, ◌≤◌, count_by, length, min}
use Rattle.stage_rules.specs.Thresholds.{is_threshold_part}
use Rattle.stage_rules.proofs.threshold.thresholds_in.Given as goal

-- those so far, with those that are left
abbrev pub invariant-loop-left : goal.invariant-loop-left
invariant-loop-left l =
    (min (l.count + count_by is_threshold_part l.left) 2
    ≡ min (count_by is_threshold_part l.parts) 2)
    × (l.count ≤ 2)

abbrev pub decreases-loop-left : goal.decreases-loop-left
decreases-loop-left l = length l.left
