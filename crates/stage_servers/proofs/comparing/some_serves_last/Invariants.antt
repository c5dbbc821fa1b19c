use Rattle.std.proofs.Common.{◌≡◌, length}
use Rattle.std.specs.List.{list_any}
use Rattle.stage_servers.specs.Unedited.{serves_last}
use Rattle.stage_servers.proofs.comparing.some_serves_last.Given as goal

-- what is left decides
abbrev pub invariant-loop-left : goal.invariant-loop-left
invariant-loop-left l =
    list_any (λ server. serves_last server.serves) l.left
    ≡ list_any (λ server. serves_last server.serves) l.servers

abbrev pub decreases-loop-left : goal.decreases-loop-left
decreases-loop-left l = length l.left
