use Rattle.std.proofs.Common.{◌≡◌, ◌++◌, length, map}
use Rattle.serde_json.specs.View.{view}
use Rattle.simulate.specs.Objects.{app_objects}
use Rattle.simulate.proofs.share_objects.app_objects.Given as goal

-- the objects so far, with those of the apps that are left, are all
abbrev pub invariant-loop-apps : goal.invariant-loop-apps
invariant-loop-apps l =
    map view l.values.items ++ app_objects l.apps l.chosen
    ≡ app_objects l.simulated.apps l.simulated.chosen

abbrev pub decreases-loop-apps : goal.decreases-loop-apps
decreases-loop-apps l = length l.apps
