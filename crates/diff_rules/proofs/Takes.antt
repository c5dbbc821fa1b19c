-- Takes are counted in any order.
use Rattle.std.proofs.Common.{◌≡◌, ◌∙◌, ℕ, ◌+◌, List, [], ◌∷◌, reverse, Bool, cond, refl, ap}
use Rattle.std.proofs.Common.{arith}
use Rattle.std.specs.List.{count_by, sum_by}
use Rattle.std.proofs.lemmas.Grind.{reverse_onto}
use Rattle.std.proofs.lemmas.List.Sums.{sum_by-cons, sum_by_push}

pub count_by_reverse : (p : ℕ → Bool) (xs : List ℕ) → count_by p (reverse xs) ≡ count_by p xs
count_by_reverse p [] = refl
count_by_reverse p (x ∷ xs) =
    let one : ℕ → ℕ = λ y. cond (p y) 1 0 in
    let front = sum_by-cons one x xs in
    let same = count_by_reverse p xs in
    let turned : sum_by one (reverse xs) + one x ≡ sum_by one (x ∷ xs) =
    omega (arith, front, same) in
    ap (count_by p) (reverse_onto xs x []) ∙ sum_by_push one (reverse xs) x ∙ turned
