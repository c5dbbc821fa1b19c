use Rattle.std.proofs.Common.{ap, refl}
use Rattle.stage_records.specs.declared.step.StepAction.TheVariants.{Halt}
use Rattle.stage_commands.proofs.Changing.{changes_file}
use Rattle.stage_commands.proofs.Replacing.{halt_found}
use Rattle.stage_commands.proofs.app_halts.halt.Goals as goal
use Rattle.stage_commands.proofs.Left.{left_as, on_ok_of}

pub take_file-requires-clause-found : goal.take_file-requires-clause-found
take_file-requires-clause-found g c =
    halt_found _ _ _ _ _ c.in-Ok-planned_file.file c.in-Ok-planned_file.ensures

pub take_file-requires-clause-changes : goal.take_file-requires-clause-changes
take_file-requires-clause-changes g c =
    changes_file _ _ _ c.in-Ok-planned_file.file c.in-Ok-planned_file.ensures.plan.by

pub returns-in-Ok-planned_file-clause-planned : goal.returns-in-Ok-planned_file-clause-planned
returns-in-Ok-planned_file-clause-planned g c =
    on_ok_of c.take_file.result _
    (_, (c.in-Ok-planned_file.file, refl, c.in-Ok-planned_file.ensures))

pub returns-in-Ok-planned_file-clause-stopped : goal.returns-in-Ok-planned_file-clause-stopped
returns-in-Ok-planned_file-clause-stopped g c =
    left_as _ c.take_file.result _ _ _ _ _ _ _ _ (ap (λ a. Halt a) c.in-Ok-owned_text.ensures)
    (c.in-Ok-planned_file.file, refl, c.in-Ok-planned_file.ensures) c.take_file.ensures.stopped
