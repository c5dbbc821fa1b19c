use Rattle.std.proofs.Common.{◌++◌, ℕ, All, List, length, map, string_bytes}
use Rattle.diff_space.specs.Lines.{IsLine}
use Rattle.diff_space.specs.Scopes.{Scope}
use Rattle.diff_text.specs.Conditions.{grant_sets}
use Rattle.diff_text.specs.Grants.{AreGrantTexts}
use Rattle.diff_text.proofs.grants.grants_of.Given as goal

-- whatever is said of the remaining sets is said of all with what is done
abbrev pub invariant-loop-left : goal.invariant-loop-left
invariant-loop-left l =
    (x : Scope) → All (IsLine x) l.dimensions → (more : List (List ℕ))
    → AreGrantTexts l.old l.new x l.dimensions (grant_sets l.dimensions l.left) more
    → AreGrantTexts l.old l.new x l.dimensions (grant_sets l.dimensions l.sets)
    (map string_bytes l.texts.items ++ more)

abbrev pub decreases-loop-left : goal.decreases-loop-left
decreases-loop-left l = length l.left
