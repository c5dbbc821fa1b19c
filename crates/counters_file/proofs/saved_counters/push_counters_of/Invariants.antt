use Rattle.std.proofs.Common.{◌≡◌, ◌≤◌, ◌++◌, ◌+◌}
use Rattle.std.specs.Prelude.{flat_map, slice_index, string_bytes}
use Rattle.std.specs.List.{range_with_len}
use Rattle.counters_file.specs.Text.{ended, lines_of_counter}
use Rattle.counters_file.proofs.saved_counters.push_counters_of.Given as goal

-- the lines of the counters so far
abbrev pub invariant-loop-index : goal.invariant-loop-index
invariant-loop-index l =
    (l.index ≤ l.array.length)
    × (string_bytes l.text ≡ string_bytes l.initial.text ++ flat_map ended
    (flat_map (λ index. lines_of_counter l.array index
    (slice_index l.values (l.array.base + index))) (range_with_len 0 l.index)))
