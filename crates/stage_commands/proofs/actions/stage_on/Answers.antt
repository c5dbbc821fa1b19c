use Rattle.std.proofs.Common.{inl, inr}
use Rattle.stage_commands.proofs.Left.{if_ok_of}
use Rattle.stage_commands.proofs.actions.stage_on.Goals as goal

pub returns-in-Err-clause-left : goal.returns-in-Err-clause-left
returns-in-Err-clause-left g c = λ wet.
    inr (c.in-Err.stop, c.in-Err.ensures.stopped)

pub returns-in-Ok-clause-unedited : goal.returns-in-Ok-clause-unedited
returns-in-Ok-clause-unedited g c =
    if_ok_of c.into_outcome.result _ (λ outcome done. c.in-Ok.ensures.unedited)

pub returns-in-Ok-clause-left : goal.returns-in-Ok-clause-left
returns-in-Ok-clause-left g c = λ wet.
    inl (c.in-Ok.ensures.planned, c.in-Ok.ensures.unedited, c.in-Ok.ensures.done wet)
