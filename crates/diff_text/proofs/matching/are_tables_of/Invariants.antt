use Rattle.std.proofs.Common.{◌≡◌, length}
use Rattle.diff_text.specs.Tables.{are_tables_of}
use Rattle.diff_text.proofs.matching.are_tables_of.Given as goal

-- the remaining ones decide
abbrev pub invariant-loop-left : goal.invariant-loop-left
invariant-loop-left l =
    are_tables_of l.dimensions l.left l.right ≡ are_tables_of l.dimensions l.sets l.tables

abbrev pub decreases-loop-left : goal.decreases-loop-left
decreases-loop-left l = length l.left
