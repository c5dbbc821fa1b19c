-- What the seats, which are ghost tokens, know, counted.
use Rattle.std.proofs.Common.{◌≡◌, ◌≢◌, ℕ, zero, suc, ◌+◌, ◌<◌, ◌≤◌, Bool, true, false}
use Rattle.std.proofs.Common.{List, [], ◌∷◌, ◌++◌, length, get_or, set, sym}
use Rattle.std.proofs.Common.{ap, ◌∙◌, arith, length-set, get_or-set_other}
use Rattle.std.specs.Prelude.{◌==◌, sum_by}
use Rattle.std.proofs.lemmas.Bool.Decides.{nat_tests}
use Rattle.std.proofs.lemmas.List.Sums.{sum_by-cons, sum_by-append, sum_by-set, get_or-le-sum_by}
use mathlib.Core.Option.{some, some-ne-none, some-injective}
use lib.ListN.{get_elem?}
use Rattle.shared_cells.specs.declared.rule.Account.{Account}
use Rattle.shared_cells.specs.Rule.{accounts_of, one_if}

-- an element that exists
pub found : {A : Type 0} (l : List A) (i : ℕ) (a d : A) → get_elem? l i ≡ some a
    → (get_or l i d ≡ a) × (i < length l)
found [] i a d e = absurd (some-ne-none a (sym e))
found (x ∷ xs) zero a d e = (some-injective x a e, omega arith)
found (x ∷ xs) (suc i) a d e = let t = found xs i a d e in (t.0, omega arith)

module _ (f : List Account → ℕ) where
  -- one seat's accounts exchanged for others
  pub sum_set : (vs : List (List Account)) (i : ℕ) (v w : List Account) → get_elem? vs i ≡ some v
      → sum_by f (set vs i w) + f v ≡ sum_by f vs + f w
  sum_set vs i v w at =
      let t = found vs i v [] at in
      ap (λ (u : List Account). sum_by f (set vs i w) + f u) (sym t.0) ∙ sum_by-set f vs i w [] t.1

  -- two seats know at most what all know
  pub two_seats : (vs : List (List Account)) (i j : ℕ) (u v : List Account) → j ≢ i → f [] ≡ 0
      → get_elem? vs i ≡ some u → get_elem? vs j ≡ some v → f u + f v ≤ sum_by f vs
  two_seats vs i j u v ne none here there =
      let t = found vs j v [] there in
      let lt = t.1 in
      let left = sum_set vs i u [] here in
      let room = length-set vs i [] in
      let other = get_or-le-sum_by f (set vs i []) j [] (omega arith) in
      let same : f (get_or (set vs i []) j []) ≡ f v =
      ap f (get_or-set_other vs i j [] [] ne ∙ t.0) in
      omega arith

pub count-cons : (p : ℕ) (x : Account) (v : List Account)
    → accounts_of p (x ∷ v) ≡ one_if (x.number == p) + accounts_of p v
count-cons p x v = sum_by-cons (λ (y : Account). one_if (y.number == p)) x v

pub count-append : (p : ℕ) (v w : List Account)
    → accounts_of p (v ++ w) ≡ accounts_of p v + accounts_of p w
count-append p v w = sum_by-append (λ (y : Account). one_if (y.number == p)) v w

pub one_itself : (a : ℕ) → one_if (a == a) ≡ 1
one_itself a = grind (arith, nat_tests)

pub at_most_one : (b : Bool) → one_if b ≤ 1
at_most_one true = omega arith
at_most_one false = omega arith

pub count-le : (p : ℕ) (v : List Account) → accounts_of p v ≤ length v
count-le p [] = omega arith
count-le p (x ∷ v) =
    let one = at_most_one (x.number == p) in
    let rest = count-le p v in
    let all = count-cons p x v in omega arith

pub counts-le : (p : ℕ) (vs : List (List Account))
    → sum_by (accounts_of p) vs ≤ sum_by (λ (v : List Account). length v) vs
counts-le p [] = omega arith
counts-le p (v ∷ vs) =
    let one = count-le p v in
    let rest = counts-le p vs in
    let a = sum_by-cons (accounts_of p) v vs in
    let b = sum_by-cons (λ (u : List Account). length u) v vs in omega arith
