use Rattle.std.proofs.Common.{◌++◌, List, ℕ, length, string_bytes}
use Rattle.why_log.specs.Explained.{ExplainsLines}
use Rattle.why_log.proofs.explanation.explain_lines.Given as goal

-- what explains the lines that are left, after the text so far, explains all
abbrev pub invariant-loop-left : goal.invariant-loop-left
invariant-loop-left l = (rest : List ℕ)
    → ExplainsLines l.manifest l.served l.words l.left rest
    → ExplainsLines l.manifest l.served l.words l.lines (string_bytes l.text ++ rest)

abbrev pub decreases-loop-left : goal.decreases-loop-left
decreases-loop-left l = length l.left
