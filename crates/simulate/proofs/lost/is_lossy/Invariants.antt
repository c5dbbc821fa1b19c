use Rattle.std.proofs.Common.{◌≡◌, length}
use Rattle.std.specs.List.{list_any}
use Rattle.simulate.specs.Moving.{some_lose}
use Rattle.simulate.specs.Shown.{offer_of}
use Rattle.simulate.proofs.lost.is_lossy.Given as goal

-- the apps that are left decide
abbrev pub invariant-loop-left : goal.invariant-loop-left
invariant-loop-left l =
    list_any (λ app. some_lose (offer_of l.now app.appid) (offer_of l.next app.appid)) l.left
    ≡ list_any (λ app. some_lose (offer_of l.now app.appid) (offer_of l.next app.appid))
    l.now.apps

abbrev pub decreases-loop-left : goal.decreases-loop-left
decreases-loop-left l = length l.left
