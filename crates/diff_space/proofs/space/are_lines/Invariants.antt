use Rattle.std.proofs.Common.{All, length}
use Rattle.diff_space.specs.Lines.{IsLine}
use Rattle.diff_space.specs.Scopes.{scope_of}
use Rattle.diff_space.proofs.space.are_lines.Given as goal

abbrev pub invariant-loop-left : goal.invariant-loop-left
invariant-loop-left l =
    All (IsLine (scope_of l.bounds)) l.left → All (IsLine (scope_of l.bounds)) l.dimensions

abbrev pub decreases-loop-left : goal.decreases-loop-left
decreases-loop-left l = length l.left
