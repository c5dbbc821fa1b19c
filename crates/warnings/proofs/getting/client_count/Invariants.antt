use Rattle.std.proofs.Common.{◌≡◌, ◌+◌, ◌≤◌, count_by, length}
use Rattle.warnings.specs.Getting.{has_client}
use Rattle.warnings.proofs.getting.client_count.Given as goal

-- those so far, with those that are left
abbrev pub invariant-loop-left : goal.invariant-loop-left
invariant-loop-left l = record {
  so_far : l.count + count_by has_client l.left ≡ count_by has_client l.statements;
  within : l.count + length l.left ≤ length l.statements;
}

abbrev pub decreases-loop-left : goal.decreases-loop-left
decreases-loop-left l = length l.left
