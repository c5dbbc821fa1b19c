use Rattle.std.proofs.Common.{ap}
use Rattle.stage_records.specs.declared.step.StepAction.TheVariants.{Put}
use Rattle.stage_commands.proofs.PutPlan.{put_plan}
use Rattle.stage_commands.proofs.puts.plan_of.Goals as goal

pub returns : goal.returns
returns g c =
    put_plan _ _ _ _ _ _ _ c.in_ok-recorded.recorded c.in_ok-recorded.ensures
    c.in_ok-number.ensures (ap (λ m. Put m) c.in_ok-owned.ensures)
    (rw c.deref.ensures.value at c.in_ok-files.ensures)
