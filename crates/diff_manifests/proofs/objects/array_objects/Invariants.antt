use Rattle.std.proofs.Common.{◌≡◌, take, map}
use Rattle.serde_json.specs.View.{view}
use Rattle.diff_manifests.specs.Objects.{array_object}
use Rattle.diff_manifests.proofs.objects.array_objects.Given as goal

abbrev pub invariant-loop-change : goal.invariant-loop-change
invariant-loop-change l =
    map view l.values.items ≡ map array_object (take l.change-index l.changes)
