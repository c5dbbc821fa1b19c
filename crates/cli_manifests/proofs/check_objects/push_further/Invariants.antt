use Rattle.std.proofs.Common.{◌≡◌, ◌++◌, drop, map}
use Rattle.serde_json.specs.View.{view}
use Rattle.cli_manifests.specs.CheckObjects.{further_object}
use Rattle.cli_manifests.proofs.check_objects.push_further.Given as goal

-- the objects so far, with those of the faults that are left, are all
abbrev pub invariant-loop-fault : goal.invariant-loop-fault
invariant-loop-fault l =
    map view l.values.items ++ map further_object (drop l.fault-index l.further)
    ≡ map view l.initial.values.items ++ map further_object l.further
