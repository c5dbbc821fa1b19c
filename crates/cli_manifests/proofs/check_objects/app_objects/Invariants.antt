use Rattle.std.proofs.Common.{◌≡◌, ◌++◌, drop, map}
use Rattle.serde_json.specs.View.{view}
use Rattle.cli_manifests.specs.CheckObjects.{checked_app_object}
use Rattle.cli_manifests.proofs.check_objects.app_objects.Given as goal

-- the objects so far, with those of the apps that are left, are all
abbrev pub invariant-loop-app : goal.invariant-loop-app
invariant-loop-app l =
    map view l.values.items ++ map checked_app_object (drop l.app-index l.apps)
    ≡ map checked_app_object l.apps
