use Rattle.std.proofs.Common.{◌≡◌, ◌++◌, replicate, string_bytes}
use Rattle.printing.proofs.columns.push_blanks.Given as goal

abbrev pub invariant-loop-left : goal.invariant-loop-left
invariant-loop-left l =
    string_bytes l.text ++ replicate l.left 32
    ≡ string_bytes l.initial.text ++ replicate l.fn.count 32

abbrev pub decreases-loop-left : goal.decreases-loop-left
decreases-loop-left l = l.left
