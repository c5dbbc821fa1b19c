use Rattle.std.proofs.Common.{◌≡◌, length}
use Rattle.std.specs.List.{list_any}
use Rattle.stage_servers.specs.Drift.{stops_at}
use Rattle.stage_servers.proofs.drift.stop_if_drifted.Given as goal

-- what is left decides
abbrev pub invariant-loop-left : goal.invariant-loop-left
invariant-loop-left g l =
    list_any (stops_at l.call.options.now l.action) l.left
    ≡ list_any (stops_at l.call.options.now l.action) l.servers

abbrev pub decreases-loop-left : goal.decreases-loop-left
decreases-loop-left g l = length l.left
