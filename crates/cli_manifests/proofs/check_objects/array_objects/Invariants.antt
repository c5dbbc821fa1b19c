use Rattle.std.proofs.Common.{◌≡◌, ◌++◌, drop, map}
use Rattle.serde_json.specs.View.{view}
use Rattle.cli_manifests.specs.CheckObjects.{array_object}
use Rattle.cli_manifests.proofs.check_objects.array_objects.Given as goal

-- the objects so far, with those of the arrays that are left, are all
abbrev pub invariant-loop-array : goal.invariant-loop-array
invariant-loop-array l =
    map view l.values.items ++ map array_object (drop l.array-index l.arrays)
    ≡ map array_object l.arrays
