use Rattle.std.proofs.Common.{List, arith}
use Rattle.std.proofs.lemmas.Grind.{common_steps}
use Rattle.why_refused_manifest.specs.Warned.{WarnsOfApps}
use Rattle.warnings.specs.RuleWarnings.{whole_budget}
use Rattle.warnings.specs.declared.warning.Warning.{Warning}
use Rattle.why_refused_manifest.proofs.AppWarnings.{ended, first_rest, more_reported, none_left}
use Rattle.why_refused_manifest.proofs.warned.warnings_of_apps.Goals as goal

pub loop-left-preserved : goal.loop-left-preserved
loop-left-preserved c = record {
  so_far = λ rest later.
      more_reported _ _ _ _ _ _ _ _ rest
      (λ (t : List Warning). WarnsOfApps 1 whole_budget c.args.apps.now t)
      c.loop-left.invariant.so_far
      c.in_ok-budget.ensures
      (first_rest c.loop-left.left.now c.app-item.result (omega arith) c.app-item.is) later;
  within = grind (arith, common_steps);
}

pub returns : goal.returns
returns c =
    ended _ _ _ _ (λ (t : List Warning). WarnsOfApps 1 whole_budget c.args.apps.now t)
    c.loop-left.invariant.so_far (none_left c.loop-left.left.now (omega arith))
