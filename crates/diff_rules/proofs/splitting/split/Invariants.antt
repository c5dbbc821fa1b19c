use Rattle.std.proofs.Common.{◌≤◌, option_map}
use Rattle.diff_rules.proofs.Covered.{IsSplit}
use Rattle.diff_rules.proofs.splitting.split.Given as goal

-- the segments from here on are there
abbrev pub invariant-loop-segment : goal.invariant-loop-segment
invariant-loop-segment l =
    (l.segment ≤ l.segments)
    × IsSplit (option_map (λ marks. marks.items) l.possible) l.partial l.dimension l.segments
    l.segment l.initial.left.items l.left.items

abbrev pub decreases-loop-segment : goal.decreases-loop-segment
decreases-loop-segment l = l.segment
