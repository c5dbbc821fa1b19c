-- A walk along a list, and what is reported for each item.
use Rattle.std.proofs.Common.{◌≡◌, ℕ, ◌+◌, ◌-◌, ◌≤◌, length, get_or, List, [], ◌∷◌, ◌++◌}
use Rattle.std.proofs.Common.{map, take, drop, sym, ap, ◌∙◌, arith}
use Rattle.std.proofs.Common.{append_assoc, length-append}
use Rattle.std.proofs.Math.Seq.{take-append_seam}
use Rattle.std.proofs.lemmas.List.{length-take-le, map-append, take_all}

-- the remaining items are the first one and those after it
pub opened : {X : Type 0} (left : List X) (x : X) → 1 ≤ length left → x ≡ get_or left 0 x
    → left ≡ x ∷ take (length left - 1) (drop 1 left)
opened [] x some first = absurd (omega arith)
opened (y ∷ rest) x some first =
    ap (λ z. z ∷ rest) (sym first)
    ∙ ap (λ ys. x ∷ ys) (sym (take_all (length (y ∷ rest) - 1) rest (omega arith)))

-- one more step
pub taken : {X : Type 0} (list left : List X) (place : ℕ) (x : X) (after : List X)
    → left ≡ x ∷ after → take place list ++ left ≡ list
    → place + length left ≡ length list
    → take (place + 1) list ≡ take place list ++ x ∷ []
taken list left place x after is whole within =
    let front = take place list in
    let all : (front ++ x ∷ []) ++ after ≡ list =
    append_assoc front (x ∷ []) after ∙ ap (λ xs. front ++ xs) (sym is) ∙ whole in
    let counts : place + 1 ≡ length (front ++ x ∷ []) =
    omega (arith, length-append front (x ∷ []), length-take-le place list (omega arith)) in
    ap (λ k. take k list) counts ∙ ap (λ xs. take (length (front ++ x ∷ [])) xs) (sym all)
    ∙ take-append_seam (front ++ x ∷ []) after

pub whole_next : {X : Type 0} (list left : List X) (place : ℕ) (x : X) (after : List X)
    → left ≡ x ∷ after → take place list ++ left ≡ list
    → place + length left ≡ length list
    → take (place + 1) list ++ after ≡ list
whole_next list left place x after is whole within =
    ap (λ xs. xs ++ after) (taken list left place x after is whole within)
    ∙ append_assoc (take place list) (x ∷ []) after
    ∙ ap (λ xs. take place list ++ xs) (sym is) ∙ whole

pub within_next : {X : Type 0} (left : List X) (place total : ℕ) (x : X) (after : List X)
    → left ≡ x ∷ after → place + length left ≡ total → place + 1 + length after ≡ total
within_next left place total x after is within =
    let counts : length left ≡ length (x ∷ after) = ap length is in
    omega arith

-- the reports of an item and of those after it
pub reported_both : {X Y : Type 0} (reported : X → Y) (done : List Y) (here behind : List X)
    → (done ++ map reported here) ++ map reported behind ≡ done ++ map reported (here ++ behind)
reported_both reported done here behind =
    append_assoc done (map reported here) (map reported behind)
    ∙ ap (λ ys. done ++ ys) (sym (map-append reported here behind))
