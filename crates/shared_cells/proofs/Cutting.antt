-- The rule is true at first, and while seats, which are ghost tokens, are split and joined.
use Rattle.std.proofs.Common.{◌≡◌, ◌≢◌, ℕ, zero, suc, ◌+◌, ◌-◌, ◌<◌}
use Rattle.std.proofs.Common.{List, [], ◌∷◌, ◌++◌, length, set, refl, sym, ap, ◌∙◌}
use Rattle.std.proofs.Common.{subst, ⊎_elim, arith, length-append, zero-add, add-zero}
use Rattle.std.specs.Prelude.{nat_lt, All, sum_by, ◌==◌}
use Rattle.std.proofs.lemmas.Bool.Decides.{nat_tests}
use Rattle.std.proofs.lemmas.List.Sums.{sum_by-cons, sum_by_push}
use Rattle.std.proofs.lemmas.List.Elements.{All-nil, All-cons, All-head, All-tail, All-append}
use mathlib.Core.Option.{some, some-ne-none, some-injective}
use lib.ListN.{get_elem?}
use Rattle.atomic_table.specs.Table.{opening, Splits, Joins}
use Rattle.atomic_table.proofs.Lists.{at_set, at_snoc}
use Rattle.cells.specs.Events.{AreCells}
use Rattle.shared_cells.specs.declared.rule.Account.{Account}
use Rattle.shared_cells.specs.History.{Entry}
use Rattle.shared_cells.specs.Words.{AreWordsOf}
use Rattle.shared_cells.specs.Rule.{account, new_accounts, all_but_first, first_only}
use Rattle.shared_cells.specs.Rule.{AgreesWith, accounts_of, one_if, HasHistory}
use Rattle.shared_cells.proofs.Accounts.{sum_set, count-cons, count-append}

new_agree : (k n : ℕ) → All (AgreesWith []) (new_accounts k n)
new_agree k zero = All-nil (AgreesWith [])
new_agree k (suc n) = All-cons (AgreesWith []) (account k []) (new_accounts (suc k) n) refl
    (new_agree (suc k) n)

new_length : (k n : ℕ) → length (new_accounts k n) ≡ n
new_length k zero = refl
new_length k (suc n) = ap suc (new_length (suc k) n)

one_more : (k p : ℕ) → one_if (k == p) + one_if (nat_lt p k) ≡ one_if (nat_lt p (suc k))
one_more k p = grind (arith, nat_tests)

new_count : (p k n : ℕ) → accounts_of p (new_accounts k n) + one_if (nat_lt p k) ≡ one_if
    (nat_lt p (k + n))
new_count p k zero =
    let none : accounts_of p (new_accounts k zero) ≡ 0 = refl in
    let end = ap (λ (j : ℕ). one_if (nat_lt p j)) (add-zero k) in omega arith
new_count p k (suc n) =
    let rest = new_count p (suc k) n in
    let here : accounts_of p (new_accounts k (suc n)) ≡ one_if (k == p) + accounts_of p
    (new_accounts (suc k) n) =
    count-cons p (account k []) (new_accounts (suc k) n) in
    let more = one_more k p in
    let sum : suc k + n ≡ k + suc n = omega arith in
    let end = ap (λ (j : ℕ). one_if (nat_lt p j)) sum in omega arith

none_below_zero : (p : ℕ) → one_if (nat_lt p 0) ≡ 0
none_below_zero p = grind (arith, nat_tests)

new_once : (n p : ℕ) → accounts_of p (new_accounts 0 n) ≡ one_if (nat_lt p n)
new_once n p =
    let count = new_count p 0 n in
    let none = none_below_zero p in
    let end = ap (λ (j : ℕ). one_if (nat_lt p j)) (zero-add n) in omega arith

one_seat : (f : List Account → ℕ) (v : List Account) → sum_by f (v ∷ []) ≡ f v
one_seat f v = sum_by-cons f v [] ∙ add-zero (f v)

-- the rule at first, without events
pub begins : {S : Type 0} (o : List ℕ) (n : ℕ) (ws : List ℕ) → AreCells o
    → AreWordsOf o ws → HasHistory {S = S} o n (opening ws [] (new_accounts 0 n))
begins o n ws cells is = record {
  history = [];
  values = o;
  legal = record { cells = cells; grown = refl };
  cells = cells.count;
  words = is.count;
  stored = is.stored;
  agrees = agrees;
  once = λ p. one_seat (accounts_of p) (new_accounts 0 n) ∙ new_once n p;
  whole = one_seat (λ (v : List Account). length v) (new_accounts 0 n) ∙ new_length 0 n;
  known = λ p le. refl;
}
  where
    agrees : (id : ℕ) (v : List Account) → get_elem? (new_accounts 0 n ∷ []) id ≡ some v
        → All (AgreesWith []) v
    agrees zero v e = subst (All (AgreesWith [])) (some-injective (new_accounts 0 n) v e)
        (new_agree 0 n)
    agrees (suc id) v e = absurd (some-ne-none v (sym e))

cut_in_two : (f : List Account → ℕ) (v : List Account) → f [] ≡ 0
    → ((x : Account) (xs : List Account) → f (x ∷ xs) ≡ f (x ∷ []) + f xs)
    → f (all_but_first v) + f (first_only v) ≡ f v
cut_in_two f [] none adds = omega arith
cut_in_two f (x ∷ xs) none adds = let h = adds x xs in omega arith

rest_agrees : (history : List Entry) (v : List Account) → All (AgreesWith history) v
    → All (AgreesWith history) (all_but_first v)
rest_agrees history [] h = h
rest_agrees history (x ∷ xs) h = All-tail (AgreesWith history) x xs h

first_agrees : (history : List Entry) (v : List Account) → All (AgreesWith history) v
    → All (AgreesWith history) (first_only v)
first_agrees history [] h = h
first_agrees history (x ∷ xs) h =
    All-cons (AgreesWith history) x [] (All-head (AgreesWith history) x xs h)
    (All-nil (AgreesWith history))

-- the counts of one account and of others add up
count_adds : (p : ℕ) (x : Account) (xs : List Account)
    → accounts_of p (x ∷ xs) ≡ accounts_of p (x ∷ []) + accounts_of p xs
count_adds p x xs = let a = count-cons p x xs in let b = count-cons p x [] in omega arith

-- the first account goes to a new seat
pub splits : {S : Type 0} (o : List ℕ) (n id : ℕ) (v : List Account)
    → Splits (HasHistory {S = S} o n) id v (all_but_first v) (first_only v)
splits o n id v s rule at =
    let left = all_but_first v in
    let right = first_only v in
    let rest = set s.views id left in
    let sum : (f : List Account → ℕ) → f left + f right ≡ f v
    → sum_by f (rest ++ right ∷ []) ≡ sum_by f s.views = λ f cut.
    let t = sum_set f s.views id v left at in
    let u = sum_by_push f rest right in omega arith in
    record {
      history = rule.history;
      values = rule.values;
      legal = rule.legal;
      cells = rule.cells;
      words = rule.words;
      stored = rule.stored;
      agrees = λ j u there.
          ⊎_elim
          (λ (old : get_elem? rest j ≡ some u).
          ⊎_elim
          (λ (t : (j ≡ id) × (left ≡ u)). subst (All (AgreesWith rule.history)) t.1
          (rest_agrees rule.history v (rule.agrees id v at)))
          (λ (t : (j ≢ id) × (get_elem? s.views j ≡ some u)). rule.agrees j u t.1)
          (at_set s.views id j left u old))
          (λ (new : right ≡ u). subst (All (AgreesWith rule.history)) new
          (first_agrees rule.history v (rule.agrees id v at)))
          (at_snoc rest right u j there);
      once = λ p. sum (accounts_of p) (cut_in_two (accounts_of p) v refl (count_adds p))
          ∙ rule.once p;
      whole = sum (λ (u : List Account). length u)
          (cut_in_two (λ (u : List Account). length u) v refl (λ x xs. omega arith)) ∙ rule.whole;
      known = rule.known;
    }

-- one seat takes over what another knows
pub joins : {S : Type 0} (o : List ℕ) (n id : ℕ) (v : List Account) (other : ℕ) (w : List Account)
    → Joins (HasHistory {S = S} o n) id v other w (w ++ v) []
joins o n id v other w s rule at two there =
    let both = w ++ v in
    let first = set s.views id both in
    let theirs : get_elem? s.views other ≡ some w =
    ⊎_elim (λ (t : (other ≡ id) × (both ≡ w)). absurd (two t.0))
    (λ (t : (other ≢ id) × (get_elem? s.views other ≡ some w)). t.1)
    (at_set s.views id other both w there) in
    let all_agree = All-append (AgreesWith rule.history) w v (rule.agrees other w theirs)
    (rule.agrees id v at) in
    let sum : (f : List Account → ℕ) → f [] ≡ 0 → f both ≡ f w + f v
    → sum_by f (set first other []) ≡ sum_by f s.views = λ f none adds.
    let t = sum_set f s.views id v both at in
    let u = sum_set f first other w [] there in omega arith in
    record {
      history = rule.history;
      values = rule.values;
      legal = rule.legal;
      cells = rule.cells;
      words = rule.words;
      stored = rule.stored;
      agrees = λ j u e.
          ⊎_elim
          (λ (t : (j ≡ other) × ([] ≡ u)). subst (All (AgreesWith rule.history)) t.1
          (All-nil (AgreesWith rule.history)))
          (λ (t : (j ≢ other) × (get_elem? first j ≡ some u)).
          ⊎_elim
          (λ (x : (j ≡ id) × (both ≡ u)). subst (All (AgreesWith rule.history)) x.1 all_agree)
          (λ (x : (j ≢ id) × (get_elem? s.views j ≡ some u)). rule.agrees j u x.1)
          (at_set s.views id j both u t.1))
          (at_set first other j [] u e);
      once = λ p. sum (accounts_of p) refl (count-append p w v) ∙ rule.once p;
      whole = sum (λ (u : List Account). length u) refl (length-append w v) ∙ rule.whole;
      known = rule.known;
    }

-- the first account of those that are left
pub cut_from : (k n : ℕ) → k < n
    → (all_but_first (new_accounts k (n - k)) ≡ new_accounts (k + 1) (n - (k + 1)))
    × (first_only (new_accounts k (n - k)) ≡ account k [] ∷ [])
cut_from k n lt =
    let more : n - k ≡ suc (n - (k + 1)) = omega arith in
    let next : suc k ≡ k + 1 = omega arith in (
      ap (λ (m : ℕ). all_but_first (new_accounts k m)) more
          ∙ ap (λ (j : ℕ). new_accounts j (n - (k + 1))) next,
      ap (λ (m : ℕ). first_only (new_accounts k m)) more,
    )
