use Rattle.std.proofs.Common.{◌≡◌, length}
use Rattle.simulate.proofs.Counted.{AreCounted}
use Rattle.simulate.proofs.counts.count_buckets.Given as goal

abbrev pub invariant-loop-bucket : goal.invariant-loop-bucket
invariant-loop-bucket l = AreCounted l.choices l.bucket l.counts × (length l.counts ≡ 65)
