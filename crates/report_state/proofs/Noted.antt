-- What a noted place keeps.
use Rattle.std.proofs.Common.{◌≡◌, ◌∙◌, refl, sym, subst, ℕ, zero, suc, List, [], ◌∷◌, arith}
use Rattle.std.proofs.Common.{Bool, true, false, not, if◌then◌else◌, ◌||◌, filter, nat_eq, get_or}
use Rattle.std.proofs.Common.{All, Any}
use Rattle.std.proofs.lemmas.Bool.{and_parts, eq-eqb, eqb-true}
use Rattle.std.proofs.lemmas.List.Elements.{All-cons, All-nil, filter_passes}
use Rattle.std.proofs.lemmas.List.Kept.{AllPairs-cons, AllPairs-filter}
use Rattle.report_state.specs.Places.{LogPlace, begins_with, are_alike, AreApart, GoesOn, Keeps}
use Rattle.report_state.specs.Places.{KeepsApart}
use Rattle.report_state.specs.Places.{join, joined_with}

-- ---- prefixes

begins_self : (a : List ℕ) → begins_with a a ≡ true
begins_self [] = refl
begins_self (x ∷ a) = grind (arith, begins_self a, eq-eqb x x refl)

begins_trans : (a b c : List ℕ) → begins_with a b ≡ true → begins_with b c ≡ true
    → begins_with a c ≡ true
begins_trans a b [] one other = refl
begins_trans a [] (z ∷ c) one other = cc
begins_trans [] (y ∷ b) (z ∷ c) one other = cc
begins_trans (x ∷ a) (y ∷ b) (z ∷ c) one other =
    let ones = and_parts (nat_eq x y) (begins_with a b) one in
    let others = and_parts (nat_eq y z) (begins_with b c) other in
    let rest : begins_with a c ≡ true = begins_trans a b c ones.1 others.1 in
    let same : x ≡ z = eqb-true x y ones.0 ∙ eqb-true y z others.0 in
    grind (arith, rest, eq-eqb x z same)

-- two prefixes of one text begin alike
begin_both : (a b c : List ℕ) → begins_with a b ≡ true → begins_with a c ≡ true
    → (begins_with b c || begins_with c b) ≡ true
begin_both a b [] one other = refl
begin_both a [] (z ∷ c) one other = refl
begin_both [] (y ∷ b) (z ∷ c) one other = cc
begin_both (x ∷ a) (y ∷ b) (z ∷ c) one other =
    let ones = and_parts (nat_eq x y) (begins_with a b) one in
    let others = and_parts (nat_eq x z) (begins_with a c) other in
    let rest = begin_both a b c ones.1 others.1 in
    let same : y ≡ z = sym (eqb-true x y ones.0) ∙ eqb-true x z others.0 in
    grind (arith, rest, eq-eqb y z same, eq-eqb z y (sym same))

-- ---- places

pub goes_on_self : (p : LogPlace) → GoesOn p p
goes_on_self p = record { begins = begins_self p.beginning; counts = omega arith }

pub goes_on_on : (p q r : LogPlace) → GoesOn p q → GoesOn q r → GoesOn p r
goes_on_on p q r one other = record {
  begins = begins_trans r.beginning q.beginning p.beginning other.begins one.begins;
  counts = omega (arith, one.counts, other.counts);
}

-- both go on in what joins them
one_joined : (p q : LogPlace) → are_alike p q ≡ true → GoesOn p (join p q)
one_joined p q alike = record {
  begins = one (begins_with p.beginning q.beginning) refl;
  counts = grind arith;
}
  where
    one : (b : Bool) → b ≡ begins_with p.beginning q.beginning
        → begins_with (join p q).beginning p.beginning ≡ true
    one true is = grind (arith, begins_self p.beginning, is)
    one false is = grind (arith, alike, is)

other_joined : (p q : LogPlace) → are_alike p q ≡ true → GoesOn q (join p q)
other_joined p q alike = record {
  begins = one (begins_with p.beginning q.beginning) refl;
  counts = grind arith;
}
  where
    one : (b : Bool) → b ≡ begins_with p.beginning q.beginning
        → begins_with (join p q).beginning q.beginning ≡ true
    one true is = grind (arith, is)
    one false is = grind (arith, begins_self q.beginning, is)

-- what is alike a later place is alike each earlier one
alike_before : (p q r : LogPlace) → GoesOn p q → are_alike q r ≡ true → are_alike p r ≡ true
alike_before p q r goes alike = one (begins_with q.beginning r.beginning) refl
  where
    one : (b : Bool) → b ≡ begins_with q.beginning r.beginning → are_alike p r ≡ true
    one true is = begin_both q.beginning p.beginning r.beginning goes.begins (sym is)
    one false is =
        let longer : begins_with r.beginning q.beginning ≡ true = grind (arith, alike, is) in
        let all : begins_with r.beginning p.beginning ≡ true =
        begins_trans r.beginning q.beginning p.beginning longer goes.begins in
        grind (arith, all)

-- a place joined with another, if that begins alike
abbrev joined_if : Bool → LogPlace → LogPlace → LogPlace
joined_if alike p q = if alike then join p q else p

goes_on_if : (p q : LogPlace) (b : Bool) → b ≡ are_alike p q → GoesOn p (joined_if b p q)
goes_on_if p q true is = one_joined p q (sym is)
goes_on_if p q false is = goes_on_self p

pub goes_on : (p : LogPlace) (others : List LogPlace) → GoesOn p (joined_with p others)
goes_on p [] = goes_on_self p
goes_on p (q ∷ others) =
    goes_on_on p (joined_if (are_alike p q) p q) _ (goes_on_if p q (are_alike p q) refl)
    (goes_on (joined_if (are_alike p q) p q) others)

-- what is alike the joined place is continued by it
first_goes_on : (p q joined : LogPlace) (b : Bool) → b ≡ are_alike p q
    → GoesOn (joined_if b p q) joined → are_alike joined q ≡ true → GoesOn q joined
first_goes_on p q joined true is goes alike =
    goes_on_on q (join p q) joined (other_joined p q (sym is)) goes
first_goes_on p q joined false is goes alike =
    let before = alike_before p joined q goes alike in grind (arith, is, before)

alike_goes_on : (p : LogPlace) (others : List LogPlace)
    → All (λ q. are_alike (joined_with p others) q ≡ true → GoesOn q (joined_with p others)) others
alike_goes_on p [] = All-nil _
alike_goes_on p (q ∷ others) =
    let joined = joined_with (joined_if (are_alike p q) p q) others in
    All-cons (λ r. are_alike joined r ≡ true → GoesOn r joined) q others
    (first_goes_on p q joined (are_alike p q) refl
    (goes_on (joined_if (are_alike p q) p q) others))
    (alike_goes_on (joined_if (are_alike p q) p q) others)

-- ---- lists

abbrev pub Unlike : LogPlace → LogPlace → Bool
Unlike joined other = not (are_alike joined other)

any_more : (P : LogPlace → Type 0) (x y : LogPlace) (xs : List LogPlace) → Any P (x ∷ xs)
    → Any P (x ∷ y ∷ xs)
any_more P x y xs (zero, e, below, is, holds) = (zero, e, omega arith, is, holds)
any_more P x y xs (suc k, e, below, is, holds) =
    (suc (suc k), e, omega (arith, below), is, holds)

-- the joined place continues each other one, or that begins otherwise
kept : (joined : LogPlace) (old : List LogPlace)
    → All (λ q. are_alike joined q ≡ true → GoesOn q joined) old
    → All (λ q. Any (GoesOn q) (joined ∷ filter (Unlike joined) old)) old
kept joined [] all = All-nil _
kept joined (q ∷ old) all = one (are_alike joined q) refl
    (kept joined old (λ k d below. all (suc k) d (omega (arith, below))))
  where
    Kept : Bool → Type 0
    Kept b = let rest = filter (Unlike joined) old in
        All (λ r. Any (GoesOn r) (joined ∷ (if not b then q ∷ rest else rest))) (q ∷ old)

    here : LogPlace → Type 0
    here r = Any (GoesOn r) (joined ∷ filter (Unlike joined) old)

    with_it : LogPlace → Type 0
    with_it r = Any (GoesOn r) (joined ∷ q ∷ filter (Unlike joined) old)

    one : (b : Bool) → b ≡ are_alike joined q
        → All (λ r. Any (GoesOn r) (joined ∷ filter (Unlike joined) old)) old
        → Kept (are_alike joined q)
    one true is rest = subst Kept is (All-cons here q old
        (0, joined, omega arith, refl, all 0 q (omega arith) (sym is)) rest)
    one false is rest = subst Kept is (All-cons with_it q old
        (1, q, omega arith, refl, goes_on_self q)
        (λ k d below. any_more (GoesOn (get_or old k d)) joined q (filter (Unlike joined) old)
        (rest k d below)))

module _ (place joined : LogPlace) (old others new : List LogPlace)
    (joined_is : joined ≡ joined_with place old) (others_are : others ≡ filter (Unlike joined) old)
    (new_is : new ≡ joined ∷ others) where
  keeps : Keeps old new
  keeps = rw (new_is, others_are) (kept joined old
      (subst AlikeGoOn (sym joined_is) (alike_goes_on place old)))
    where
      AlikeGoOn : LogPlace → Type 0
      AlikeGoOn j = All (λ q. are_alike j q ≡ true → GoesOn q j) old

  apart : AreApart old → AreApart new
  apart old_apart = rw (new_is, others_are) (AllPairs-cons Apart joined (filter (Unlike joined) old)
      all_unlike (AllPairs-filter Apart (Unlike joined) old old_apart))
    where
      Apart : LogPlace → LogPlace → Type 0
      Apart one other = are_alike one other ≡ false

      all_unlike : All (λ other. are_alike joined other ≡ false) (filter (Unlike joined) old)
      all_unlike k d within =
          let passes = filter_passes (Unlike joined) old k d within in grind (arith, passes)

  pub keeps_apart : KeepsApart old new
  keeps_apart = record { keeps = keeps; apart = apart }

  pub noted : Any (GoesOn place) new
  noted = rw new_is (
    zero,
    joined,
    omega arith,
    refl,
    subst (GoesOn place) (sym joined_is) (goes_on place old),
  )
