use Rattle.answering.specs.Answer.{sent}
use Rattle.answering.proofs.Grown.{grows_none}
use Rattle.answering.proofs.Replies.{is_answered}
use Rattle.answering.proofs.settling.settle.Goals as goal

pub returns-in-Ok-clause-settles : goal.returns-in-Ok-clause-settles
returns-in-Ok-clause-settles g c =
    is_answered _ (g.C.CellSteps.grew) _ _ _ _ _ c.in-Ok.request _
    (rw c.in-Ok.is at c.in_ok-request.ensures.received) c.reply_to-outcome.ensures.replies

pub returns-in-Err-clause-settles : goal.returns-in-Err-clause-settles
returns-in-Err-clause-settles g c =
    grows_none (g.C.CellSteps.grew) _ _
    (sent ((rw c.in-Err.is at c.in_ok-request.ensures.received) _ _))
