use Rattle.std.proofs.Common.{◌≡◌, ◌++◌, length, map, string_bytes}
use Rattle.diff_text.specs.Conditions.{and_texts}
use Rattle.diff_text.proofs.condition.push_and_texts.Given as goal

-- the text so far, and the remaining ones
abbrev pub invariant-loop-left : goal.invariant-loop-left
invariant-loop-left l =
    string_bytes l.text ++ and_texts (map string_bytes l.left)
    ≡ string_bytes l.initial.text ++ and_texts (map string_bytes l.texts)

abbrev pub decreases-loop-left : goal.decreases-loop-left
decreases-loop-left l = length l.left
