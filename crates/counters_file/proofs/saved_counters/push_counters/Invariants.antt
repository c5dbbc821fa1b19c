use Rattle.std.proofs.Common.{◌≡◌, ◌++◌, length}
use Rattle.std.specs.Prelude.{flat_map, string_bytes}
use Rattle.counters_file.specs.Text.{ended, lines_of_array}
use Rattle.counters_file.proofs.saved_counters.push_counters.Given as goal

-- the lines so far, and those of the arrays that are left, are all
abbrev pub invariant-loop-left : goal.invariant-loop-left
invariant-loop-left l =
    string_bytes l.text ++ flat_map ended (flat_map (lines_of_array l.values) l.left)
    ≡ string_bytes l.initial.text ++ flat_map ended (flat_map (lines_of_array l.values) l.fn.arrays)

abbrev pub decreases-loop-left : goal.decreases-loop-left
decreases-loop-left l = length l.left
