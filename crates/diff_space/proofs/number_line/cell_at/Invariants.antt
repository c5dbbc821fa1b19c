use Rattle.std.proofs.Common.{◌^◌, ◌<◌, length}
use Rattle.diff_space.proofs.Cells.{Counts}
use Rattle.diff_space.proofs.number_line.cell_at.Given as goal

abbrev pub invariant-loop-left : goal.invariant-loop-left
invariant-loop-left l = length l.starts < 2 ^ 16 → Counts l.number l.starts l.count l.left

abbrev pub decreases-loop-left : goal.decreases-loop-left
decreases-loop-left l = length l.left
