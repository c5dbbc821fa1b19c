use Rattle.std.proofs.Common.{◌≡◌, length}
use Rattle.std.specs.List.{zip}
use Rattle.simulate.proofs.Counted.{AreMovesSoFar}
use Rattle.simulate.proofs.counts.count_moves.Given as goal

abbrev pub invariant-loop-bucket : goal.invariant-loop-bucket
invariant-loop-bucket l = AreMovesSoFar (zip l.now l.next) l.bucket l.table.items
    × (length l.table.items ≡ 4225)
