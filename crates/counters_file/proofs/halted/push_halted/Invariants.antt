use Rattle.std.proofs.Common.{◌≡◌, ◌++◌, map, length}
use Rattle.std.specs.Prelude.{All, flat_map, string_bytes}
use Rattle.counters_file.specs.Halts.{IsText, halted_line}
use Rattle.counters_file.specs.Text.{ended}
use Rattle.counters_file.proofs.halted.push_halted.Given as goal

-- the lines so far, and those of the apps that are left, are all
abbrev pub invariant-loop-left : goal.invariant-loop-left
invariant-loop-left l =
    (string_bytes l.text ++ flat_map ended (map halted_line (map string_bytes l.left))
    ≡ string_bytes l.initial.text
    ++ flat_map ended (map halted_line (map string_bytes l.fn.halted)))
    × (All IsText (map string_bytes l.left) → All IsText (map string_bytes l.fn.halted))

abbrev pub decreases-loop-left : goal.decreases-loop-left
decreases-loop-left l = length l.left
