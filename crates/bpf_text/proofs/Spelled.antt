-- A word is its stem and its suffix.
use Rattle.std.proofs.Common.{◌≡◌, ℕ, List, [], ◌∷◌, ◌++◌, length, take, drop}
use Rattle.std.proofs.Common.{Bool, true, false, ◌&&◌, nat_eq, refl, sym, ap, ◌∙◌}
use Rattle.std.specs.Str.{bytes_eq}

split_and : (a b c d : Bool) → b ≡ (c && d) → (a && b) ≡ ((a && c) && d)
split_and true b c d e = e
split_and false b c d e = refl

pub bytes_eq-append : (w xs ys : List ℕ)
    → bytes_eq w (xs ++ ys) ≡ (bytes_eq (take (length xs) w) xs && bytes_eq (drop (length xs) w) ys)
bytes_eq-append w [] ys = refl
bytes_eq-append [] (x ∷ xs) ys = refl
bytes_eq-append (c ∷ w) (x ∷ xs) ys = split_and (nat_eq c x) (bytes_eq w (xs ++ ys))
    (bytes_eq (take (length xs) w) xs) (bytes_eq (drop (length xs) w) ys) (bytes_eq-append w xs ys)

pub no_stem : (w xs ys : List ℕ) → bytes_eq (take (length xs) w) xs ≡ false
    → false ≡ bytes_eq w (xs ++ ys)
no_stem w xs ys e =
    sym (bytes_eq-append w xs ys ∙ ap (λ (b : Bool). b && bytes_eq (drop (length xs) w) ys) e)
