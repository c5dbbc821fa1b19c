use Rattle.std.proofs.Common.{◌≡◌, ◌++◌, map, length}
use Rattle.std.specs.Prelude.{All, flat_map, string_bytes}
use Rattle.cells.specs.Names.{IsName}
use Rattle.counters_file.specs.Lines.{array_line}
use Rattle.counters_file.specs.Text.{ended}
use Rattle.counters_file.proofs.saved_counters.push_arrays.Given as goal

-- the lines so far, and those of the arrays that are left, are all
abbrev pub invariant-loop-left : goal.invariant-loop-left
invariant-loop-left l =
    (string_bytes l.text ++ flat_map ended (map array_line l.left)
    ≡ string_bytes l.initial.text ++ flat_map ended (map array_line l.fn.arrays))
    × (All (λ a. IsName a.name) l.left → All (λ a. IsName a.name) l.fn.arrays)

abbrev pub decreases-loop-left : goal.decreases-loop-left
decreases-loop-left l = length l.left
