-- The promise of a worker's thread.
use Rattle.std.specs.Prelude.{◌≡◌}
use Rattle.hot_swap.specs.Published.{KnownPrefix}
use Rattle.workers.specs.declared.promise.WorkerPromise.{WorkerPromise}

-- a worker's thread promises to return this worker, over these cells and their cover
pub record IsPromiseOf {X Y P : Type 0} (cells : X) (cover : Y) (worker : P × KnownPrefix)
    (promise : WorkerPromise X Y P) : Type 0 where
  pub cells_are : promise.cells.value ≡ cells
  pub cover_is : promise.cover.value ≡ cover
  pub worker_is : promise.given.value ≡ worker
