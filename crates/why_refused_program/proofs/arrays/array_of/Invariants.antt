use Rattle.std.proofs.Common.{◌≡◌, length}
use Rattle.std.specs.List.{find}
use Rattle.why_refused_program.specs.Values.{holds_cell}
use Rattle.why_refused_program.proofs.arrays.array_of.Given as goal

abbrev pub invariant-loop-left : goal.invariant-loop-left
invariant-loop-left l = find (holds_cell l.cell) l.left ≡ find (holds_cell l.cell) l.fn.arrays

abbrev pub decreases-loop-left : goal.decreases-loop-left
decreases-loop-left l = length l.left
