use Rattle.std.proofs.Common.{◌≤◌}
use Rattle.std.specs.String.{string_bytes}
use Rattle.operator.specs.Counters.{ReadsCells, Describes}
use Rattle.operator.proofs.reply_lines.tell_cells.Given as goal
use Rattle.cells.specs.Grown.{Grows}

-- the cells so far, with their lines
abbrev pub invariant-loop-index : goal.invariant-loop-index
invariant-loop-index g l =
    g.C.CellSteps.belongs l.cells l.pass
    × (l.index ≤ l.array.length)
    × Grows (g.C.CellSteps.grew) l.initial.pass l.pass
    (Describes (ReadsCells l.array l.index) (string_bytes l.initial.text) (string_bytes l.text))
