use Rattle.stage_commands.proofs.Changing.{changes_all}
use Rattle.stage_commands.proofs.Left.{left_for}
use Rattle.stage_commands.proofs.Put.{found_changes}
use Rattle.stage_commands.proofs.Replacing.{has_put}
use Rattle.stage_commands.proofs.puts.put.Goals as goal

pub returns-in-Ok-take_step-clause-done : goal.returns-in-Ok-take_step-clause-done
returns-in-Ok-take_step-clause-done g c = λ wet.
    has_put
    (record { left = c.steps_leave.ensures.left; changes = c.steps_leave.ensures.changes })
    _ _ _ _ _ _ _ _ _ (rw c.in-Ok.field-0-is at c.in-Ok.ensures)
    (c.in-Ok-take_step.ensures.done wet)

pub take_step-requires-clause-is_new : goal.take_step-requires-clause-is_new
take_step-requires-clause-is_new g c = (rw c.in-Ok.field-0-is at c.in-Ok.ensures).is_new

pub take_step-requires-clause-found : goal.take_step-requires-clause-found
take_step-requires-clause-found g c =
    found_changes _ _ _ _ (rw c.in-Ok.field-0-is at c.in-Ok.ensures).files.changes

pub take_step-requires-clause-changes : goal.take_step-requires-clause-changes
take_step-requires-clause-changes g c =
    let changes = (rw c.in-Ok.field-0-is at c.in-Ok.ensures).files.changes in
    changes_all changes.all _ changes.changes

pub returns-in-Ok-take_step-clause-planned : goal.returns-in-Ok-take_step-clause-planned
returns-in-Ok-take_step-clause-planned g c =
    let plan = rw c.in-Ok.field-0-is at c.in-Ok.ensures in
    (c.in-Ok.field-0.files.items, (plan.recorded, plan.are, plan.files))

pub returns-in-Err-take_step-clause-stopped : goal.returns-in-Err-take_step-clause-stopped
returns-in-Err-take_step-clause-stopped g c =
    let plan = rw c.in-Ok.field-0-is at c.in-Ok.ensures in
    left_for _ c.in-Err-take_step.stop _ _ _ _ _ _ _ _ plan.action_is
    (plan.recorded, plan.are, plan.files) c.in-Err-take_step.ensures.stopped
