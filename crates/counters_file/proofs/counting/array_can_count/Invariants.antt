use Rattle.std.proofs.Common.{ℕ, ◌+◌, ◌<◌}
use Rattle.std.specs.Prelude.{IsTrue, slice_index}
use Rattle.counters_file.specs.Lines.{can_count}
use Rattle.counters_file.proofs.counting.array_can_count.Given as goal

-- the counters so far can have their values
abbrev pub invariant-loop-index : goal.invariant-loop-index
invariant-loop-index l = (k : ℕ) → k < l.index
    → IsTrue (can_count l.array.quota (slice_index l.values (l.array.base + k)))
