use Rattle.std.proofs.Common.{◌≡◌, length}
use Rattle.simulate.specs.Shown.{offer_in}
use Rattle.simulate.proofs.simulated.offer_in.Given as goal

abbrev pub invariant-loop-apps : goal.invariant-loop-apps
invariant-loop-apps l =
    offer_in l.apps l.chosen l.appid ≡ offer_in l.fn.all l.fn.all_chosen l.fn.appid

abbrev pub decreases-loop-apps : goal.decreases-loop-apps
decreases-loop-apps l = length l.apps
