use Rattle.std.proofs.Common.{◌≡◌, length}
use Rattle.stage_rules.specs.InForce as specs
use Rattle.stage_rules.proofs.halt.may_offer.Given as goal

-- what is left decides
abbrev pub invariant-loop-left : goal.invariant-loop-left
invariant-loop-left l = specs.may_offer l.left l.appid ≡ specs.may_offer l.apps l.appid

abbrev pub decreases-loop-left : goal.decreases-loop-left
decreases-loop-left l = length l.left
