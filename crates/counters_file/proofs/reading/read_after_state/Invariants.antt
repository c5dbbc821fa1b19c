use Rattle.std.proofs.Common.{length, map}
use Rattle.std.specs.Prelude.{string_bytes}
use Rattle.counters_file.proofs.HaltsOn.{IsReadTo}
use Rattle.counters_file.proofs.reading.read_after_state.Given as goal

abbrev pub invariant-loop-left : goal.invariant-loop-left
invariant-loop-left l =
    IsReadTo l.was_stopped (map (λ line. line.now) l.fn.lines) l.next
    (map (λ line. line.now) l.left) (map string_bytes l.halted.items)

abbrev pub decreases-loop-left : goal.decreases-loop-left
decreases-loop-left l = length l.left
