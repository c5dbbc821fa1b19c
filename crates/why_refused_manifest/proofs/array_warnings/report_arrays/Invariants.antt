use Rattle.std.proofs.Common.{◌≡◌, ◌+◌, ◌++◌, length}
use Rattle.why_refused_manifest.specs.ArrayWarnings.{array_warnings}
use Rattle.why_refused_manifest.proofs.array_warnings.report_arrays.Given as goal

abbrev pub invariant-loop-left : goal.invariant-loop-left
invariant-loop-left l = record {
  so_far : l.warnings.items ++ array_warnings l.number l.left l.apps
      ≡ l.initial.warnings.items ++ array_warnings 0 l.arrays l.apps;
  within : l.number + length l.left ≡ length l.arrays;
}

abbrev pub decreases-loop-left : goal.decreases-loop-left
decreases-loop-left l = length l.left
