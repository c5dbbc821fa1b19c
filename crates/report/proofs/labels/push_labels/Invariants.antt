use Rattle.std.proofs.Common.{◌≡◌, ◌++◌, IsUtf8, length, map, string_bytes}
use Rattle.report.specs.Exposition.{labels_text}
use Rattle.report.proofs.labels.push_labels.Given as goal

-- the text so far and the remaining labels make the whole
abbrev pub invariant-loop-left : goal.invariant-loop-left
invariant-loop-left l =
    IsUtf8 l.texts × (string_bytes l.text ++ labels_text (map (λ c. c.now) l.left) l.texts
    ≡ string_bytes l.fn.text ++ labels_text (map (λ c. c.now) l.labels) l.name)

abbrev pub decreases-loop-left : goal.decreases-loop-left
decreases-loop-left l = length l.left
