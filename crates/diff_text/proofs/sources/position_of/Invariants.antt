use Rattle.std.proofs.Common.{◌≡◌, ◌+◌, length}
use Rattle.std.specs.Prelude.{◌==◌}
use Rattle.std.specs.List.{position_or_len}
use Rattle.diff_text.proofs.sources.position_of.Given as goal

-- the position in the remaining ones, after those that were looked at
abbrev pub invariant-loop-left : goal.invariant-loop-left
invariant-loop-left l =
    (l.place + position_or_len (λ c. c == l.content) l.left
    ≡ position_or_len (λ c. c == l.content) l.contents)
    × (l.place + length l.left ≡ length l.contents)

abbrev pub decreases-loop-left : goal.decreases-loop-left
decreases-loop-left l = length l.left
