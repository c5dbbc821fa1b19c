use Rattle.cli_manifests.specs.Checks.AreCheckedEach.{none}
use Rattle.cli_manifests.proofs.Checked.{one_more_checked}
use Rattle.cli_manifests.proofs.checks.check_each.Goals as goal

pub loop-path-init : goal.loop-path-init
loop-path-init g c = none

pub loop-path-preserved : goal.loop-path-preserved
loop-path-preserved g c = one_more_checked _ c.args.strict c.args.allowed.now c.args.paths.now
    c.loop-path.path-index _ c.loop-path.output c.in_ok-output.output c.loop-path.invariant
    c.loop-path-test.true c.in_ok-output.ensures
