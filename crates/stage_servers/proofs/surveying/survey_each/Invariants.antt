use Rattle.std.proofs.Common.{length}
use Rattle.stage_servers.specs.Ports.{AreSurveyed}
use Rattle.stage_servers.proofs.surveying.survey_each.Given as goal

abbrev pub invariant-loop-left : goal.invariant-loop-left
invariant-loop-left g l = AreSurveyed (g.D.Disk.known l.call.disk.now) l.call.manifest.now
    l.ports l.left l.servers.items

abbrev pub decreases-loop-left : goal.decreases-loop-left
decreases-loop-left g l = length l.left
