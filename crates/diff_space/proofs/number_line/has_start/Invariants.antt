use Rattle.std.proofs.Common.{◌≡◌, length}
use Rattle.std.specs.Prelude.{◌==◌}
use Rattle.std.specs.List.{list_any}
use Rattle.diff_space.proofs.number_line.has_start.Given as goal

-- the remaining ends decide
abbrev pub invariant-loop-left : goal.invariant-loop-left
invariant-loop-left l =
    list_any (λ start. start == l.number) l.left ≡ list_any (λ start. start == l.number) l.starts

abbrev pub decreases-loop-left : goal.decreases-loop-left
decreases-loop-left l = length l.left
