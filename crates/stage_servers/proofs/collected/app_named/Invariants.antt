use Rattle.std.proofs.Common.{◌≡◌, length}
use Rattle.stage_servers.specs.Apps as specs
use Rattle.stage_servers.proofs.collected.app_named.Given as goal

-- what is left decides
abbrev pub invariant-loop-left : goal.invariant-loop-left
invariant-loop-left l = specs.app_named l.left l.appid ≡ specs.app_named l.apps l.appid

abbrev pub decreases-loop-left : goal.decreases-loop-left
decreases-loop-left l = length l.left
