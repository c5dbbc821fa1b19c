use Rattle.std.proofs.Common.{◌∙◌}
use Rattle.workers.proofs.Lines.{at_end, no_line, one_more}
use Rattle.workers.proofs.operating.operate.Goals as goal

pub loop-init : goal.loop-init
loop-init g c = no_line _ (g.C.CellSteps.grew) _ _ _ _ c.requires

pub returns-in_default : goal.returns-in_default
returns-in_default g c =
    at_end _ (g.C.CellSteps.grew) _ c.ended.result _ _ _ _
    (c.ended.ensures.accepted ∙ c.in_default.ensures.none)
    (c.ended.ensures.requested ∙ c.is_stopping.ensures) c.loop.invariant

pub returns-then-is_stopping : goal.returns-then-is_stopping
returns-then-is_stopping g c =
    let did = c.attend-reply.ensures in
    at_end _ (g.C.CellSteps.grew) _ c.ended-then-is_stopping.result _ _ _ _
    c.ended-then-is_stopping.ensures.accepted
    (c.ended-then-is_stopping.ensures.requested ∙ c.is_stopping-is_stopping.ensures)
    (one_more _ (g.C.CellSteps.grew) _ c.growth.ensures.append _ _ c.in-Some-accept.ensures.one
    _ _ _ _ _ _ c.loop.invariant did.belongs c.attend-reply.result did.answers did.unread)

pub loop-preserved : goal.loop-preserved
loop-preserved g c =
    let did = c.attend-reply.ensures in
    one_more _ (g.C.CellSteps.grew) _ c.growth.ensures.append _ _ c.in-Some-accept.ensures.one
    _ _ _ _ _ _ c.loop.invariant did.belongs c.attend-reply.result did.answers did.unread
