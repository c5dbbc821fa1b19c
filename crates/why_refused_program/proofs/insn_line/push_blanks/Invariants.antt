use Rattle.std.proofs.Common.{◌≡◌, ◌++◌, replicate, string_bytes}
use Rattle.why_refused_program.specs.Lines.{pad_to_comment}
use Rattle.why_refused_program.proofs.insn_line.push_blanks.Given as goal

abbrev pub invariant-loop-left : goal.invariant-loop-left
invariant-loop-left l =
    string_bytes l.text ++ replicate l.left 32
    ≡ string_bytes l.initial.text ++ pad_to_comment l.fn.width

abbrev pub decreases-loop-left : goal.decreases-loop-left
decreases-loop-left l = l.left
