use Rattle.std.proofs.Common.{◌≡◌, ◌++◌, length, map, string_bytes}
use Rattle.serde_json.specs.View.{view}
use Rattle.diff_text.specs.Objects.{text_values}
use Rattle.diff_text.proofs.objects.push_texts.Given as goal

-- the values so far, and the remaining texts
abbrev pub invariant-loop-left : goal.invariant-loop-left
invariant-loop-left l =
    map view l.values.items ++ text_values (map string_bytes l.left)
    ≡ map view l.initial.values.items ++ text_values (map string_bytes l.texts)

abbrev pub decreases-loop-left : goal.decreases-loop-left
decreases-loop-left l = length l.left
