use Rattle.std.proofs.Common.{◌≡◌, bytes_eq, length}
use Rattle.std.specs.List.{list_any}
use Rattle.stage_rules.proofs.offers.has_release.Given as goal

-- what is left decides
abbrev pub invariant-loop-left : goal.invariant-loop-left
invariant-loop-left l =
    list_any (λ release. bytes_eq release.version l.version) l.left
    ≡ list_any (λ release. bytes_eq release.version l.version) l.releases

abbrev pub decreases-loop-left : goal.decreases-loop-left
decreases-loop-left l = length l.left
