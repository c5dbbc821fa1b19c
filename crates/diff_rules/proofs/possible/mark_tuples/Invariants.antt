use Rattle.std.proofs.Common.{◌≡◌, length}
use Rattle.diff_space.specs.Groups.{all_cells}
use Rattle.diff_rules.specs.Search.{marked_by_all}
use Rattle.diff_rules.proofs.possible.mark_tuples.Given as goal

-- the remaining ones mark the rest
abbrev pub invariant-loop-left : goal.invariant-loop-left
invariant-loop-left l =
    marked_by_all l.dimensions l.partial l.dimension l.marks (all_cells l.left)
    ≡ marked_by_all l.dimensions l.partial l.dimension l.initial.marks (all_cells l.tuples)

abbrev pub decreases-loop-left : goal.decreases-loop-left
decreases-loop-left l = length l.left
