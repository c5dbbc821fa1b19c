use Rattle.std.proofs.Common.{◌≡◌, ◌++◌, length, map}
use Rattle.serde_json.specs.View.{view}
use Rattle.diff_manifests.specs.Objects.{app_objects}
use Rattle.diff_manifests.proofs.objects.app_objects.Given as goal

abbrev pub invariant-loop-left : goal.invariant-loop-left
invariant-loop-left l =
    map view l.values.items ++ app_objects l.left ≡ app_objects l.diffs

abbrev pub decreases-loop-left : goal.decreases-loop-left
decreases-loop-left l = length l.left
