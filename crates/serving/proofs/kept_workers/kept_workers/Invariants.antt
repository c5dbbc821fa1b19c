use Rattle.std.proofs.Common.{◌≡◌, ◌++◌, [], All}
use Rattle.std.specs.Vec.Iter.{into_iter_items}
use Rattle.serving.proofs.kept_workers.kept_workers.Given as goal

-- the workers so far and those that are left are all, and none of these has done anything
abbrev pub invariant-loop-pass : goal.invariant-loop-pass
invariant-loop-pass l = record {
  all : l.fn.workers.items ≡ l.kept.items ++ into_iter_items l.pass-iterator;
  new : All (λ worker. worker.0.events ≡ []) (into_iter_items l.pass-iterator);
}
