use Rattle.std.proofs.Common.{◌≡◌, bytes_eq, length}
use Rattle.std.specs.Prelude.{find}
use Rattle.stage_rules.proofs.known_offers.known_among.Given as goal

-- the app is among those that are left, or in none
abbrev pub invariant-loop-left : goal.invariant-loop-left
invariant-loop-left l =
    find (λ app. bytes_eq app.entry.appid l.appid) l.left
    ≡ find (λ app. bytes_eq app.entry.appid l.appid) l.apps

abbrev pub decreases-loop-left : goal.decreases-loop-left
decreases-loop-left l = length l.left
