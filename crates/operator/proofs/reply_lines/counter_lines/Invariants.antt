use Rattle.std.proofs.Common.{take}
use Rattle.std.specs.String.{string_bytes}
use Rattle.operator.specs.Counters.{ReadsArrays}
use Rattle.operator.proofs.reply_lines.counter_lines.Given as goal
use Rattle.cells.specs.Grown.{Grows}

-- the arrays so far, with their lines
abbrev pub invariant-loop-array : goal.invariant-loop-array
invariant-loop-array g l =
    g.C.CellSteps.belongs l.cells l.pass
    × Grows (g.C.CellSteps.grew) l.initial.pass l.pass
    (λ events. ReadsArrays (take l.array-index l.arrays) events (string_bytes l.text))
