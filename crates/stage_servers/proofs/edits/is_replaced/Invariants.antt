use Rattle.std.proofs.Common.{◌≡◌, length}
use Rattle.std.specs.List.{list_any}
use Rattle.stage_servers.specs.Unedited.{replaces}
use Rattle.stage_servers.proofs.edits.is_replaced.Given as goal

-- what is left decides
abbrev pub invariant-loop-left : goal.invariant-loop-left
invariant-loop-left l = list_any (replaces l.name) l.left ≡ list_any (replaces l.name) l.later

abbrev pub decreases-loop-left : goal.decreases-loop-left
decreases-loop-left l = length l.left
