-- The first position in two lists.
use Rattle.std.proofs.Common.{◌≡◌, ℕ, suc, ◌+◌, ◌<◌, ◌≤◌, List, [], ◌∷◌}
use Rattle.std.proofs.Common.{◌++◌, length, refl, ap, arith}
use Rattle.std.specs.Prelude.{Bool, true, false, cond, not}
use Rattle.std.specs.List.{position_or_len}

step_first : (b : Bool) (inner whole len : ℕ) → (inner < len → whole ≡ inner)
    → cond b (1 + inner) 0 < suc len → cond b (1 + whole) 0 ≡ cond b (1 + inner) 0
step_first true inner whole len same h = ap (λ (n : ℕ). 1 + n) (same (omega (arith, h)))
step_first false inner whole len same h = refl

-- the first position in two lists is that in the first one, if it is there
pub first_of_two : {X : Type 0} (p : X → Bool) (xs ys : List X)
    → position_or_len p xs < length xs → position_or_len p (xs ++ ys) ≡ position_or_len p xs
first_of_two p [] ys within = absurd (omega (arith, within))
first_of_two p (x ∷ xs) ys within =
    step_first (not (p x)) (position_or_len p xs) (position_or_len p (xs ++ ys)) (length xs)
    (λ h. first_of_two p xs ys h) within

step_within : (b : Bool) (inner len : ℕ) → inner ≤ len → cond b (1 + inner) 0 ≤ suc len
step_within true inner len h = omega (arith, h)
step_within false inner len h = omega arith

pub position_within : {X : Type 0} (p : X → Bool) (xs : List X) → position_or_len p xs ≤ length xs
position_within p [] = omega arith
position_within p (x ∷ xs) =
    step_within (not (p x)) (position_or_len p xs) (length xs) (position_within p xs)

step_second : (b : Bool) (inner whole len more : ℕ) → (len ≤ inner → whole ≡ len + more)
    → suc len ≤ cond b (1 + inner) 0 → cond b (1 + whole) 0 ≡ suc len + more
step_second true inner whole len more same h =
    let e = same (omega (arith, h)) in omega (arith, e)
step_second false inner whole len more same h = absurd (omega (arith, h))

pub second_of_two : {X : Type 0} (p : X → Bool) (xs ys : List X)
    → length xs ≤ position_or_len p xs
    → position_or_len p (xs ++ ys) ≡ length xs + position_or_len p ys
second_of_two p [] ys past = omega arith
second_of_two p (x ∷ xs) ys past =
    step_second (not (p x)) (position_or_len p xs) (position_or_len p (xs ++ ys)) (length xs)
    (position_or_len p ys) (λ h. second_of_two p xs ys h) past
