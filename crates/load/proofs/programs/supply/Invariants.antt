use Rattle.std.proofs.Common.{◌≡◌, ◌++◌, All}
use Rattle.std.specs.Vec.Iter.{into_iter_items}
use Rattle.load.specs.JudgedApps.{IsJudgedApp, app_rules, sources_of}
use Rattle.load.specs.Sources.{HasItsReleases}
use Rattle.load.proofs.programs.supply.Given as goal

-- the apps so far, followed by those of what is left, are all apps
abbrev pub invariant-loop-app : goal.invariant-loop-app
invariant-loop-app l = record {
  so_far : l.supplied.items ++ app_rules (into_iter_items l.app-iterator)
      ≡ app_rules l.fn.apps.items;
  judged : All IsJudgedApp (into_iter_items l.app-iterator);
  shaped : All HasItsReleases (sources_of (into_iter_items l.app-iterator));
}
