use Rattle.std.proofs.Common.{◌≡◌, ◌++◌, drop, map}
use Rattle.serde_json.specs.View.{view}
use Rattle.cli_manifests.specs.CheckObjects.{warning_object}
use Rattle.cli_manifests.proofs.check_objects.warning_objects.Given as goal

-- the objects so far, with those of the warnings that are left, are all
abbrev pub invariant-loop-warning : goal.invariant-loop-warning
invariant-loop-warning l =
    map view l.values.items ++ map (warning_object l.allowed) (drop l.warning-index l.warnings)
    ≡ map (warning_object l.allowed) l.warnings
