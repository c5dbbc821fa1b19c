use Rattle.std.proofs.Common.{rules}
use Rattle.ruleset.proofs.Found.{is_again, goes_on}
use Rattle.ruleset.proofs.ruleset.has_duplicate.Goals as goal

pub returns-then-is_some : goal.returns-then-is_some
returns-then-is_some c =
    is_again c.loop-left.left.now _ c.app-item.result c.appid.result.now c.first_app.result
    c.loop-left.invariant (search rules) (search rules) (search rules) c.first_app.ensures
    (search rules)

pub loop-left-preserved : goal.loop-left-preserved
loop-left-preserved c =
    goes_on c.loop-left.left.now _ c.app-item.result c.appid.result.now c.first_app.result
    c.loop-left.invariant (search rules) (search rules) (search rules) c.first_app.ensures
    (search rules)
