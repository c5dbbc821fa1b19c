use Rattle.std.proofs.Common.{Some, ap}
use Rattle.bounded_files.specs.declared.kept_bytes.KeptBytes.{KeptBytes}
use Rattle.load.proofs.Keeping.{longer_fault, whole_fault, whole_program}
use Rattle.load.proofs.judging.judge_kept.Goals as goal

pub returns-in-Whole-clause-program : goal.returns-in-Whole-clause-program
returns-in-Whole-clause-program c =
    whole_program c.args.source.now (Some c.args.kept.now) _ _
    (ap (λ (k : KeptBytes). Some k) c.in-Whole.is) c.as_slice.ensures.value
    c.judge_bytes.result c.judge_bytes.ensures.program

pub returns-in-Whole-clause-fault : goal.returns-in-Whole-clause-fault
returns-in-Whole-clause-fault c =
    whole_fault c.args.source.now (Some c.args.kept.now) _ _
    (ap (λ (k : KeptBytes). Some k) c.in-Whole.is) c.as_slice.ensures.value
    c.args.shape.now c.judge_bytes.result c.judge_bytes.ensures.fault

pub returns-in-Longer-clause-fault : goal.returns-in-Longer-clause-fault
returns-in-Longer-clause-fault c =
    longer_fault c.args.source.now (Some c.args.kept.now) _ _ _ c.too_long.result
    (ap (λ (k : KeptBytes). Some k) c.in-Longer.is)
    c.args.shape.now c.too_long.ensures
