use Rattle.std.proofs.Common.{◌≡◌, ◌+◌, ◌++◌, length}
use Rattle.why_refused_manifest.specs.ArrayWarnings.{array_warning, users_from}
use Rattle.why_refused_manifest.proofs.array_warnings.report_array.Given as goal

-- no app before those that are left uses it
abbrev pub invariant-loop-left : goal.invariant-loop-left
invariant-loop-left l = record {
  so_far : l.warnings.items ++ array_warning l.number (users_from l.app l.number l.left)
      ≡ l.initial.warnings.items ++ array_warning l.number (users_from 1 l.number l.apps);
  within : l.app + length l.left ≡ 1 + length l.apps;
}

abbrev pub decreases-loop-left : goal.decreases-loop-left
decreases-loop-left l = length l.left
