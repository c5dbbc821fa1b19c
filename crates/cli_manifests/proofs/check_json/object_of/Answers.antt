use Rattle.cli_manifests.specs.CheckObjects.IsCheckObject.{accepted, refused}
use Rattle.cli_manifests.proofs.check_json.object_of.Goals as goal

pub returns-in_ok-value-in-Ok : goal.returns-in_ok-value-in-Ok
returns-in_ok-value-in-Ok g c =
    rw (c.in_ok-value-in-Ok.ensures, c.passes-one.ensures, c.as_slice.ensures.value)
    (accepted c.in-Ok.checked c.in-Ok.ensures.checked)

pub returns-in_ok-value-in-Err : goal.returns-in_ok-value-in-Err
returns-in_ok-value-in-Err g c = let reason = c.in_ok-value-in-Err.ensures.0 in
    rw c.in_ok-value-in-Err.ensures.1 (refused c.in-Err.fault reason c.in-Err.ensures.fault)
