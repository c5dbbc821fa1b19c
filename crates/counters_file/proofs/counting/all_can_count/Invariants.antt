use Rattle.std.proofs.Common.{length}
use Rattle.std.specs.Prelude.{All}
use Rattle.counters_file.specs.Lines.{CanCount}
use Rattle.counters_file.proofs.counting.all_can_count.Given as goal

-- all can count if those that are left can
abbrev pub invariant-loop-left : goal.invariant-loop-left
invariant-loop-left l =
    All (CanCount l.values) l.left → All (CanCount l.values) l.fn.arrays

abbrev pub decreases-loop-left : goal.decreases-loop-left
decreases-loop-left l = length l.left
