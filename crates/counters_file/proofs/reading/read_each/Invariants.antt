use Rattle.std.proofs.Common.{length, map}
use Rattle.counters_file.proofs.ReadOn.{IsReadOn}
use Rattle.counters_file.proofs.reading.read_each.Given as goal

abbrev pub invariant-loop-left : goal.invariant-loop-left
invariant-loop-left l =
    IsReadOn (map (λ line. line.now) l.fn.lines)
    (record { arrays = l.initial.directory; values = l.initial.values }) l.fn.first l.number
    (map (λ line. line.now) l.left) (record { arrays = l.directory; values = l.values })

abbrev pub decreases-loop-left : goal.decreases-loop-left
decreases-loop-left l = length l.left
