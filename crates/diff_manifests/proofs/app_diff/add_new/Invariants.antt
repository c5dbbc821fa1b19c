use Rattle.std.proofs.Common.{length, map}
use Rattle.load.specs.declared.judged.JudgedApp.{JudgedApp}
use Rattle.std.specs.Option.{option_copied}
use Rattle.diff_manifests.specs.Opened.{manifest_appids}
use Rattle.diff_manifests.specs.Adding.{AddsMore}
use Rattle.diff_manifests.proofs.app_diff.add_new.Given as goal

abbrev pub invariant-loop-left : goal.invariant-loop-left
invariant-loop-left l =
    AddsMore l.both l.within.from_day l.within.used.now (option_copied l.only)
    (manifest_appids l.both.new) (map (λ (app : JudgedApp). app.sources.entry.appid) l.left)
    l.initial.diffs.items l.diffs.items

abbrev pub decreases-loop-left : goal.decreases-loop-left
decreases-loop-left l = length l.left
