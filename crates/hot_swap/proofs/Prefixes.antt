-- Prefixes of one list.
use Rattle.std.proofs.Common.{◌≡◌, ◌+◌, ◌≤◌, List, [], ◌∷◌, ◌++◌, length, refl, ap, sym, ◌∙◌}
use Rattle.std.proofs.Common.{arith, length-append, Option, None, Some}
use Rattle.std.specs.List.{last_or}
use mathlib.Core.List.{IsPrefix}
use Rattle.hot_swap.specs.Published.{HasLast}
use Rattle.ruleset.specs.Rules.{Rules}

-- of two prefixes of one list, the shorter is a prefix of the longer
pub prefix_shorter : {A : Type 0} (xs ys zs : List A) → IsPrefix xs zs → IsPrefix ys zs
    → length xs ≤ length ys → IsPrefix xs ys
prefix_shorter [] ys zs p q le = (ys, refl)
prefix_shorter (x ∷ xs) [] zs p q le = absurd (omega arith)
prefix_shorter (x ∷ xs) (y ∷ ys) [] p q le = absurd (cc (p.1))
prefix_shorter (x ∷ xs) (y ∷ ys) (z ∷ zs) p q le =
    let heads : x ≡ y = cc (p.1, q.1) in
    let rest = prefix_shorter xs ys zs (p.0, cc (p.1)) (q.0, cc (q.1)) (omega arith) in
    (rest.0, cc (heads, rest.1))

-- a prefix as long as the whole is the whole
pub prefix_whole : {A : Type 0} (xs ys : List A) → IsPrefix xs ys → length ys ≤ length xs → xs ≡ ys
prefix_whole [] [] p le = refl
prefix_whole [] (y ∷ ys) p le = absurd (omega arith)
prefix_whole (x ∷ xs) [] p le = absurd (cc (p.1))
prefix_whole (x ∷ xs) (y ∷ ys) p le =
    let rest = prefix_whole xs ys (p.0, cc (p.1)) (omega arith) in
    cc (p.1, rest)

-- a list ends with what was appended last
pub has_last : (other : Option Rules) (xs : List Rules) (rules : Rules)
    → last_or other (xs ++ rules ∷ []) ≡ Some rules
has_last other [] rules = refl
has_last other (x ∷ xs) rules = has_last (Some x) xs rules

-- a list that is longer only by its last ruleset
pub one_more : (xs ys : List Rules) (rules : Rules) → IsPrefix xs ys → HasLast ys rules
    → length ys ≡ length xs + 1 → ys ≡ xs ++ rules ∷ []
one_more xs ys rules (rest, p) e n = by_rest rest p where
  by_rest : (rest : List Rules) → xs ++ rest ≡ ys → ys ≡ xs ++ rules ∷ []
  by_rest [] p = absurd (omega (arith, ap length p, length-append xs []))
  by_rest (x ∷ []) p =
      let last : Some x ≡ Some rules = sym (has_last None xs x) ∙ (ap (last_or None) p ∙ e) in
      sym p ∙ ap (λ (r : Rules). xs ++ r ∷ []) (cc last)
  by_rest (x ∷ y ∷ more) p = absurd (omega (arith, ap length p, length-append xs (x ∷ y ∷ more)))
