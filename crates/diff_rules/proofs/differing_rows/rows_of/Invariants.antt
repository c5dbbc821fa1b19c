use Rattle.std.proofs.Common.{◌≤◌, length}
use Rattle.diff_rules.proofs.differing_rows.rows_of.Given as goal

abbrev pub invariant-loop-k : goal.invariant-loop-k
invariant-loop-k l = l.k ≤ length l.dimensions

abbrev pub decreases-loop-k : goal.decreases-loop-k
decreases-loop-k l = l.k
