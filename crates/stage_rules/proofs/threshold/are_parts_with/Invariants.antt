use Rattle.std.proofs.Common.{◌≡◌, length, map}
use Rattle.stage_rules.specs.Thresholds.{part_with}
use Rattle.stage_rules.proofs.threshold.are_parts_with.Given as goal

-- what is left decides
abbrev pub invariant-loop-left : goal.invariant-loop-left
invariant-loop-left l =
    l.right ≡ map (part_with l.number) l.left → l.others ≡ map (part_with l.number) l.parts

abbrev pub decreases-loop-left : goal.decreases-loop-left
decreases-loop-left l = length l.left
