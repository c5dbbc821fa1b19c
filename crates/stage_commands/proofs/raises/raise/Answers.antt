use Rattle.std.proofs.Common.{ap, refl, rules}
use Rattle.stage_records.specs.declared.step.StepAction.TheVariants.{Raise}
use Rattle.stage_commands.proofs.Changing.{changes_file}
use Rattle.stage_commands.proofs.Left.{left_as, on_ok, on_ok_of}
use Rattle.stage_commands.proofs.Replacing.{raise_found, raised}
use Rattle.stage_commands.proofs.raises.raise.Goals as goal

pub take_file-requires-clause-found : goal.take_file-requires-clause-found
take_file-requires-clause-found g c =
    raise_found _ _ _ _ _ _ c.in-Ok-planned_file.file c.in-Ok-planned_file.ensures.planned

pub returns-in-Ok-planned_file-clause-done : goal.returns-in-Ok-planned_file-clause-done
returns-in-Ok-planned_file-clause-done g c =
    let plans = c.in-Ok-planned_file.ensures in
    on_ok c.take_file.result _ _ (λ takes wet. raised _ _ _ _ _ _ _ _ c.in-Ok-planned_file.file _ _
    c.args.buckets c.in-Ok-owned_text.ensures (search rules) (c.in-Ok.recorded, c.in-Ok.ensures)
    plans.planned plans.accepted (takes wet)) c.take_file.ensures.done

pub take_file-requires-clause-changes : goal.take_file-requires-clause-changes
take_file-requires-clause-changes g c =
    changes_file _ _ _ c.in-Ok-planned_file.file c.in-Ok-planned_file.ensures.planned.plan.by

pub returns-in-Ok-planned_file-clause-planned : goal.returns-in-Ok-planned_file-clause-planned
returns-in-Ok-planned_file-clause-planned g c =
    let plans = c.in-Ok-planned_file.ensures in
    on_ok_of c.take_file.result _ (
      _,
      (
        (c.in-Ok.recorded, c.in-Ok.ensures),
        c.in-Ok-planned_file.file,
        refl,
        plans.planned,
        plans.accepted,
      ),
    )

pub returns-in-Ok-planned_file-clause-stopped : goal.returns-in-Ok-planned_file-clause-stopped
returns-in-Ok-planned_file-clause-stopped g c =
    let plans = c.in-Ok-planned_file.ensures in
    left_as _ c.take_file.result _ _ _ _ _ _ _ _
    (ap (λ a. Raise a c.args.buckets) c.in-Ok-owned_text.ensures) (
      (c.in-Ok.recorded, c.in-Ok.ensures),
      c.in-Ok-planned_file.file,
      refl,
      plans.planned,
      plans.accepted,
    ) c.take_file.ensures.stopped
