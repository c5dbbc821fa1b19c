use Rattle.std.proofs.Common.{◌≡◌, length}
use Rattle.cli_base.specs.Grammar.{names_of, verb_in}
use Rattle.cli_base.proofs.row.verb_named.Given as goal

-- the remaining rows decide
abbrev pub invariant-loop-left : goal.invariant-loop-left
invariant-loop-left g l = verb_in l.name (names_of l.left) ≡ verb_in l.name (names_of l.rows)

abbrev pub decreases-loop-left : goal.decreases-loop-left
decreases-loop-left g l = length l.left
