use Rattle.std.proofs.Common.{rules, arith, ◌∙◌}
use Rattle.stage_folder.proofs.Parts.{done_left, failed_left, more_left, opened}
use Rattle.stage_folder.proofs.performing.perform.Goals as goal

pub returns-in-Err-clause-failed : goal.returns-in-Err-clause-failed
returns-in-Err-clause-failed g c =
    let left = c.loop-left.left.now in
    let whole = opened left c.file-item.result (omega arith) c.file-item.is in
    c.loop-left.invariant.1 _ (failed_left left _ _ _ _ whole c.in-Err.ensures.failed)

pub loop-left-preserved : goal.loop-left-preserved
loop-left-preserved g c =
    let i = c.loop-left.invariant in
    let left = c.loop-left.left.now in
    let whole = opened left c.file-item.result (omega arith) c.file-item.is in
    let put = c.in_default-put_after.ensures in (
      done_left left _ _ _ _ whole put.put ∙ i.0,
      λ new part. i.1 new (more_left left _ _ _ _ new whole put.put part),
      put.records ∙ i.2,
      search rules,
    )
