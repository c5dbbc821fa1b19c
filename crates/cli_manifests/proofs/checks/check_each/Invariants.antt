use Rattle.cli_manifests.proofs.Checked.{AreCheckedSoFar}
use Rattle.cli_manifests.proofs.checks.check_each.Given as goal

abbrev pub invariant-loop-path : goal.invariant-loop-path
invariant-loop-path g l =
    AreCheckedSoFar (g.D.Disk.known l.disk) l.strict l.allowed l.paths l.path-index l.output
