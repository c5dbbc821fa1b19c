use Rattle.std.specs.Prelude.{◌≡◌, All, length}
use Rattle.std.specs.Vec.Iter.{into_iter_items, into_iter_len}
use Rattle.workers.specs.Promised.{IsPromiseOf}
use Rattle.workers.proofs.InPlace.{HasOneEach}
use Rattle.workers.proofs.crew.start_workers.Given as goal

-- each worker so far has a thread that promises to return it
abbrev pub invariant-loop-worker : goal.invariant-loop-worker
invariant-loop-worker g l = record {
  belong : All (λ w. g.C.CellSteps.belongs l.cells w.0) (into_iter_items l.worker-iterator);
  started : HasOneEach (λ w thread. IsPromiseOf l.cells l.crew.cover.now w thread.promise)
      (into_iter_items l.initial.worker-iterator) l.yielded (into_iter_items l.worker-iterator)
      l.threads.items;
  left : into_iter_len l.worker-iterator ≡ length (into_iter_items l.worker-iterator);
}
