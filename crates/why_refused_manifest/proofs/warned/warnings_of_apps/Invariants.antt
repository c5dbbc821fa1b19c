use Rattle.std.proofs.Common.{◌≡◌, ◌+◌, ◌++◌, List, length}
use Rattle.why_refused_manifest.specs.Warned.{WarnsOfApps}
use Rattle.warnings.specs.RuleWarnings.{whole_budget}
use Rattle.warnings.specs.declared.warning.Warning.{Warning}
use Rattle.why_refused_manifest.proofs.warned.warnings_of_apps.Given as goal

-- the warnings so far, followed by those on the apps that are left, are those on all
abbrev pub invariant-loop-left : goal.invariant-loop-left
invariant-loop-left l = record {
  so_far : (rest : List Warning) → WarnsOfApps l.number l.budget l.left rest
      → WarnsOfApps 1 whole_budget l.fn.apps (l.warnings.items ++ rest);
  within : l.number + length l.left ≡ 1 + length l.fn.apps;
}

abbrev pub decreases-loop-left : goal.decreases-loop-left
decreases-loop-left l = length l.left
