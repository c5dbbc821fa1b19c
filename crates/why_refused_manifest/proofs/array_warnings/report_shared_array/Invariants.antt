use Rattle.std.proofs.Common.{◌≡◌, ◌+◌, ◌++◌, ◌∷◌, length}
use Rattle.why_refused_manifest.specs.ArrayWarnings.{array_warning, users_from}
use Rattle.why_refused_manifest.proofs.array_warnings.report_shared_array.Given as goal

-- no app before those that are left uses it
abbrev pub invariant-loop-left : goal.invariant-loop-left
invariant-loop-left l = record {
  so_far : l.warnings.items
      ++ array_warning l.number (l.first ∷ users_from l.second l.number l.left)
      ≡ l.initial.warnings.items
      ++ array_warning l.number (l.first ∷ users_from l.fn.app l.number l.apps);
  within : l.second + length l.left ≡ l.fn.app + length l.apps;
}

abbrev pub decreases-loop-left : goal.decreases-loop-left
decreases-loop-left l = length l.left
