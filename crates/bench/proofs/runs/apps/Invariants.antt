use Rattle.std.proofs.Common.{◌≡◌, length, map}
use Rattle.bench.proofs.Apps.{AreAppsSoFar}
use Rattle.bench.proofs.runs.apps.Given as goal

abbrev pub invariant-loop-k : goal.invariant-loop-k
invariant-loop-k l = record {
  count : length l.apps.items ≡ l.k;
  each : AreAppsSoFar (map (λ a. a.value) l.apps.items);
}
