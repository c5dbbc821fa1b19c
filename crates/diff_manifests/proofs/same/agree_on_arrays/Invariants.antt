use Rattle.std.proofs.Common.{◌≡◌, length}
use Rattle.diff_manifests.specs.Apps.{AgreeAsFar}
use Rattle.diff_manifests.proofs.same.agree_on_arrays.Given as goal

-- the arrays that are left decide
abbrev pub invariant-loop-left : goal.invariant-loop-left
invariant-loop-left l = record {
  agree : AgreeAsFar l.left l.right → AgreeAsFar l.arrays l.others;
  same : (length l.left ≡ length l.right → l.left ≡ l.right)
      → length l.arrays ≡ length l.others → l.arrays ≡ l.others;
}

abbrev pub decreases-loop-left : goal.decreases-loop-left
decreases-loop-left l = length l.left
