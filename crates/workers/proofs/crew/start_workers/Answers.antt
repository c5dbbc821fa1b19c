use Rattle.std.proofs.Common.{List, length, sym, ap, subst, ◌∙◌, arith}
use Rattle.std.specs.List.{AllZip}
use Rattle.std.specs.declared.thread.PromisedHandle.{PromisedHandle}
use Rattle.std.proofs.lemmas.List.Elements.{All-rest}
use Rattle.hot_swap.specs.Published.{KnownPrefix}
use Rattle.workers.specs.Promised.{IsPromiseOf}
use Rattle.workers.specs.declared.promise.WorkerPromise.{WorkerPromise}
use Rattle.workers.proofs.InPlace.{all_have, one_more}
use Rattle.workers.proofs.crew.start_workers.Goals as goal

pub loop-worker-preserved : goal.loop-worker-preserved
loop-worker-preserved g c =
    let i = c.loop-worker.invariant in
    let steps = c.in-Some.ensures.steps in
    let long = ap (λ ws. length ws) steps.0 in
    let last = steps.1 in
    let before = i.left in
    record {
      belong = All-rest (λ w. g.C.CellSteps.belongs c.args.cells.now w.0) c.in-Some.worker _ _
          steps.0 i.belong;
      started = one_more _ _ _ _ _ c.in-Some.worker _ _ c.in-Ok-start_worker.thread i.started
          steps.0 c.in-Ok-push.ensures.items c.in-Ok-start_worker.ensures;
      left = omega (arith, long, last, before);
    }

pub returns : goal.returns
returns g c =
    let P = g.row.C-Pass.Denot in
    let K = PromisedHandle (P × KnownPrefix) (WorkerPromise g.row.C.Denot g.row.K.Denot P) in
    let i = c.loop-worker.invariant in
    let gives = c.into_iter-worker-iterator.ensures.into_iter_gives in
    subst (λ (ws : List (P × KnownPrefix)). AllZip (λ (w : P × KnownPrefix) (thread : K).
    IsPromiseOf c.args.cells.now c.args.crew.now.cover.now w thread.promise) ws
    c.loop-worker.threads.items) gives.0
    (all_have _ _ _ _ _ i.started (sym i.left ∙ c.in-None.ensures.steps.0))
