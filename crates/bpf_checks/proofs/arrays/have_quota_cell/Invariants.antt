use Rattle.std.proofs.Common.{◌≡◌, length}
use Rattle.std.specs.List.{list_any}
use Rattle.bpf_checks.specs.Arrays.{has_quota_cell}
use Rattle.bpf_checks.proofs.arrays.have_quota_cell.Given as goal

abbrev pub invariant-loop-left : goal.invariant-loop-left
invariant-loop-left l =
    list_any (has_quota_cell l.cell) l.left ≡ list_any (has_quota_cell l.cell) l.among

abbrev pub decreases-loop-left : goal.decreases-loop-left
decreases-loop-left l = length l.left
