use Rattle.std.proofs.Common.{rules}
use Rattle.diff_text.specs.Conditions.{offer_if}
use Rattle.diff_text.proofs.Matched.{verdict_is}
use Rattle.diff_text.proofs.read_back.rule_of.Goals as goal

pub returns-in-Ok : goal.returns-in-Ok
returns-in-Ok c =
    verdict_is _ _ (offer_if c.args.condition.now) _ c.plain-shape.ensures.releases
    c.plain-shape.ensures.arrays (search rules) c.in-Ok.ensures.rule
