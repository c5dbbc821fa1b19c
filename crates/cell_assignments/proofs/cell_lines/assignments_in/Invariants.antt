use Rattle.std.proofs.Common.{◌≡◌, ◌++◌, map, length}
use Rattle.cell_assignments.specs.Assignments as specs
use Rattle.cell_assignments.proofs.cell_lines.assignments_in.Given as goal

-- the cells so far, followed by those of the lines that are left, are all
abbrev pub invariant-loop-rest : goal.invariant-loop-rest
invariant-loop-rest l =
    specs.assignments_in (map (λ line. line.now) l.lines)
    ≡ l.cells.items ++ specs.assignments_in (map (λ line. line.now) l.rest)

abbrev pub decreases-loop-rest : goal.decreases-loop-rest
decreases-loop-rest l = length l.rest
