use Rattle.std.proofs.Common.{◌≡◌, ◌++◌, filter, length, map, not}
use Rattle.stage_folder.specs.Names.{is_dot}
use Rattle.stage_folder.proofs.device_path.without_dots.Given as goal

-- what is kept, followed by that of what is left, is all
abbrev pub invariant-loop-left : goal.invariant-loop-left
invariant-loop-left l =
    map (λ part. part.now) l.parts.items
    ++ filter (λ part. not (is_dot part)) (map (λ part. part.now) l.left)
    ≡ filter (λ part. not (is_dot part)) (map (λ part. part.now) l.all)

abbrev pub decreases-loop-left : goal.decreases-loop-left
decreases-loop-left l = length l.left
