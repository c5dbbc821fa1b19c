use Rattle.bench_answer.proofs.Watchers.{one_worker}
use Rattle.bench_answer.proofs.quotas.with_watchers.Goals as goal

pub loop-pass-preserved : goal.loop-pass-preserved
loop-pass-preserved g c =
    one_worker (g.C.CellSteps.belongs c.args.cells.now) _ _ _ _ _ _ c.in-Some.ensures.items
    c.in_ok-push.ensures.items c.loop-pass.invariant
