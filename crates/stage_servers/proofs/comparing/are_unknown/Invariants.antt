use Rattle.std.proofs.Common.{◌≡◌, length}
use Rattle.std.specs.List.{list_all}
use Rattle.stage_servers.specs.Unedited.{is_unknown}
use Rattle.stage_servers.proofs.comparing.are_unknown.Given as goal

-- what is left decides
abbrev pub invariant-loop-left : goal.invariant-loop-left
invariant-loop-left l =
    list_all (λ server. is_unknown server.serves) l.left
    ≡ list_all (λ server. is_unknown server.serves) l.servers

abbrev pub decreases-loop-left : goal.decreases-loop-left
decreases-loop-left l = length l.left
