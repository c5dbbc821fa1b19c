use Rattle.std.proofs.Common.{◌≡◌, length}
use Rattle.ruleset.specs.Rules.{app_in}
use Rattle.ruleset.proofs.ruleset.first_app.Given as goal

-- no app before those that are left has the appid
abbrev pub invariant-loop-left : goal.invariant-loop-left
invariant-loop-left l = app_in l.left l.appid ≡ app_in l.apps l.appid

abbrev pub decreases-loop-left : goal.decreases-loop-left
decreases-loop-left l = length l.left
