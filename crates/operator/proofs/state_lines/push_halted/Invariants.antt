use Rattle.std.proofs.Common.{◌≡◌, ◌++◌, flat_map, length, map, string_bytes}
use Rattle.operator.specs.Texts.{halted_line}
use Rattle.operator.proofs.state_lines.push_halted.Given as goal

-- the lines so far, followed by those of what is left, are all
abbrev pub invariant-loop-left : goal.invariant-loop-left
invariant-loop-left l =
    string_bytes l.text ++ flat_map halted_line (map string_bytes l.left)
    ≡ string_bytes l.initial.text ++ flat_map halted_line (map string_bytes l.halted)

abbrev pub decreases-loop-left : goal.decreases-loop-left
decreases-loop-left l = length l.left
