-- What a file keeps, by equal parts.
use Rattle.std.proofs.Common.{◌≡◌, ℕ, false, List, Option}
use Rattle.std.proofs.Common.{subst}
use Rattle.std.specs.Prelude.{IfSome}
use Rattle.cells.specs.declared.array.CellArray.{CellArray}
use Rattle.counters_file.specs.Kept.{Keeps}
use Rattle.counters_file.specs.Text.{Contents, contents}

pub kept_by : (old new : Option (Option (List ℕ))) (halted halted' : List (List ℕ))
    (arrays arrays' : List CellArray) (numbers numbers' : List ℕ) → halted ≡ halted'
    → arrays ≡ arrays' → numbers ≡ numbers'
    → IfSome old (λ _. IfSome new (Keeps (contents false halted arrays numbers)))
    → IfSome old (λ _. IfSome new (Keeps (contents false halted' arrays' numbers')))
kept_by old new halted halted' arrays arrays' numbers numbers' h a n =
    subst (λ (k : Contents). IfSome old (λ _. IfSome new (Keeps k)))
    (λ i. contents false (h i) (a i) (n i))
