use Rattle.std.proofs.Common.{ap, refl, rules}
use Rattle.stage_records.specs.declared.step.StepAction.TheVariants.{Resume}
use Rattle.stage_commands.proofs.Changing.{changes_file}
use Rattle.stage_commands.proofs.Left.{left_as, on_ok, on_ok_of}
use Rattle.stage_commands.proofs.Replacing.{resume_found, resumed}
use Rattle.stage_commands.proofs.resumes.resume.Goals as goal

pub take_file-requires-clause-found : goal.take_file-requires-clause-found
take_file-requires-clause-found g c =
    resume_found _ _ _ _ _ _ _ c.in-Ok-planned.file c.in-Ok-planned.ensures.planned

pub returns-in-Ok-owned_text-clause-done : goal.returns-in-Ok-owned_text-clause-done
returns-in-Ok-owned_text-clause-done g c =
    let plans = rw c.deref.ensures.value at c.in-Ok-planned.ensures.planned in
    on_ok c.take_file.result _ _ (λ takes wet. resumed _ _ _ _ _ _ _ _ c.in-Ok-planned.file _ _
    c.args.buckets c.in-Ok.recorded c.in-Ok-owned_text.ensures (search rules) c.in-Ok.ensures
    plans c.in-Ok-planned.ensures.accepted (takes wet)) c.take_file.ensures.done

pub take_file-requires-clause-changes : goal.take_file-requires-clause-changes
take_file-requires-clause-changes g c =
    changes_file _ _ _ c.in-Ok-planned.file c.in-Ok-planned.ensures.planned.plan.by

pub returns-in-Ok-owned_text-clause-planned : goal.returns-in-Ok-owned_text-clause-planned
returns-in-Ok-owned_text-clause-planned g c =
    let plans = rw c.deref.ensures.value at c.in-Ok-planned.ensures.planned in
    on_ok_of c.take_file.result _ (
      _,
      (
        c.in-Ok.recorded,
        c.in-Ok.ensures,
        (c.in-Ok-planned.file, refl, plans, c.in-Ok-planned.ensures.accepted),
      ),
    )

pub returns-in-Ok-owned_text-clause-stopped : goal.returns-in-Ok-owned_text-clause-stopped
returns-in-Ok-owned_text-clause-stopped g c =
    let plans = rw c.deref.ensures.value at c.in-Ok-planned.ensures.planned in
    left_as _ c.take_file.result _ _ _ _ _ _ _ _
    (ap (λ a. Resume a c.args.buckets) c.in-Ok-owned_text.ensures) (
      c.in-Ok.recorded,
      c.in-Ok.ensures,
      (c.in-Ok-planned.file, refl, plans, c.in-Ok-planned.ensures.accepted),
    ) c.take_file.ensures.stopped
