use Rattle.cli_manifests.proofs.CheckedObjects.{none_checked, one_more_checked}
use Rattle.cli_manifests.proofs.check_json.objects_of.Goals as goal

pub loop-path-init : goal.loop-path-init
loop-path-init g c =
    none_checked _ c.args.strict c.args.allowed.now c.args.paths.now _ c.new.ensures.items

pub loop-path-preserved : goal.loop-path-preserved
loop-path-preserved g c = one_more_checked _ c.args.strict c.args.allowed.now c.args.paths.now
    c.loop-path.path-index _ c.loop-path.objects c.in_ok-objects.objects c.loop-path.invariant
    c.loop-path-test.true c.in_ok-objects.ensures
