use Rattle.std.proofs.Common.{◌≢◌, ap, subst, List, []}
use Rattle.stage_records.specs.Steps.{ReplacedFile}
use Rattle.stage_commands.proofs.Left.{not_recorded, partly_done_by, performs}
use Rattle.stage_commands.proofs.taking.perform_step.Goals as goal

pub returns-in-Err-clause-stopped : goal.returns-in-Err-clause-stopped
returns-in-Err-clause-stopped g c =
    let some = subst (λ (files : List ReplacedFile). files ≢ []) (ap (λ s. s.files) c.step.view_is)
    (rw c.deref.ensures.value at (c.are_none.ensures.some c.if-are_none.false)) in
    not_recorded _ c.args.step.now _ _ _ _ some c.in-Err.ensures.failed c.in-Err.ensures.files

pub returns-in-Err-replace_files-clause-stopped : goal.returns-in-Err-replace_files-clause-stopped
returns-in-Err-replace_files-clause-stopped g c =
    let some = subst (λ (files : List ReplacedFile). files ≢ []) (ap (λ s. s.files) c.step.view_is)
    (rw c.deref.ensures.value at (c.are_none.ensures.some c.if-are_none.false)) in
    partly_done_by c.args.step.now _ _ _ _ _ _ c.in-Ok.ensures.recorded
    c.in-Err-replace_files.ensures.records c.in-Ok.ensures.distinct c.in-Ok.ensures.files
    c.in-Err-replace_files.ensures.stopped _ some c.in-Err-replace_files.ensures.says

pub returns-in-Ok-replace_files-clause-done : goal.returns-in-Ok-replace_files-clause-done
returns-in-Ok-replace_files-clause-done g c =
    let some = subst (λ (files : List ReplacedFile). files ≢ []) (ap (λ s. s.files) c.step.view_is)
    (rw c.deref.ensures.value at (c.are_none.ensures.some c.if-are_none.false)) in
    performs c.args.step.now _ _ _ _ _ _ some c.in-Ok.ensures.recorded
    c.in-Ok-replace_files.ensures.records c.in-Ok.ensures.distinct c.in-Ok.ensures.files
    c.in-Ok-replace_files.ensures.done
