-- For each version there is a spot of a rule with the same results in all its tests.
use Rattle.std.proofs.Common.{◌≡◌, ℕ, zero, suc, ◌<◌, List, [], ◌∷◌, ◌++◌, ◌⊎◌, inl, inr}
use Rattle.std.proofs.Common.{Bool, true, false, ◌||◌, refl, sym, ap, ◌∙◌, arith, replicate}
use Rattle.std.specs.Prelude.{slice_index, if◌then◌else◌}
use Rattle.std.specs.Cmp.{Equal-is, IsTotalOrder, alike_right, bool_cmp_total, nat_cmp_is}
use Rattle.std.specs.Cmp.{on_total, then_total, tied_back, tied_itself, upto}
use Rattle.std.specs.List.{list_any}
use Rattle.std.specs.Ordering.{is_eq, is_gt, nat_cmp, ordering_reverse, ordering_then}
use Rattle.std.specs.declared.cmp.Ordering.{Ordering}
use Rattle.std.specs.declared.cmp.Ordering.TheVariants.{Less, Equal, Greater}
use Rattle.std.proofs.lemmas.Cmp.{nat_cmp_total}
use Rattle.std.proofs.lemmas.List.Folds.{list_any-append}
use Rattle.std.proofs.lemmas.Bool.{cases_Bool, or_cases, or_left, or_parts, or_right}
use Rattle.rule_lang.specs.Meaning.{place_cmp, version_cmp}
use Rattle.warnings.specs.declared.spot.Spot.{Spot}
use Rattle.warnings.specs.Spots.{add_spot, spot_at, has_spot, just_above, lowest_spot, spot_cmp}

-- ---- versions and spots are totally ordered

place_total : (k : ℕ) → IsTotalOrder (λ (v w : List ℕ). place_cmp v w k)
place_total k = on_total (λ (v : List ℕ). slice_index v k) nat_cmp_total

version_total : IsTotalOrder version_cmp
version_total =
    then_total (place_total 0)
    (then_total (place_total 1) (then_total (place_total 2) (place_total 3)))

pub spot_total : IsTotalOrder spot_cmp
spot_total =
    then_total (on_total (λ (s : Spot). s.version) version_total)
    (on_total (λ (s : Spot). s.above) bool_cmp_total)

-- a version as a spot compares as the version does
level : (o : Ordering) → ordering_then o Equal ≡ o
level Less = refl
level Equal = refl
level Greater = refl

pub at_alike : (v w : List ℕ) → spot_cmp (spot_at v) (spot_at w) ≡ version_cmp v w
at_alike v w = level (version_cmp v w)

-- ---- orders

turned : (r : Ordering) → is_gt r ≡ true → is_gt (ordering_reverse r) ≡ false
turned Greater h = refl
turned Less h = absurd cc
turned Equal h = absurd cc

leveled : (r : Ordering) → is_gt r ≡ false → is_gt (ordering_reverse r) ≡ false → r ≡ Equal
leveled Equal h k = refl
leveled Less h k = absurd cc
leveled Greater h k = absurd cc

-- equal spots compare alike
alike_to : (x s t : Spot) → is_eq (spot_cmp x s) ≡ true → spot_cmp s t ≡ spot_cmp x t
alike_to x s t same = sym (spot_total.congr x s t ((Equal-is (spot_cmp x s)).0 same))

same_within : (x s : Spot) → is_eq (spot_cmp x s) ≡ true → is_gt (spot_cmp s x) ≡ false
same_within x s same =
    ap is_gt (tied_back spot_total x s ((Equal-is (spot_cmp x s)).0 same))

-- ---- the highest spot that isn't above a version

pub record Highest (spots : List Spot) (v : List ℕ) : Type 0 where
  pub spot : Spot
  pub among : (p : Spot → Bool) → list_any p spots ≡ false → p spot ≡ false
  pub within : is_gt (spot_cmp spot (spot_at v)) ≡ false
  pub most : (s : Spot) → has_spot spots s ≡ true → is_gt (spot_cmp s (spot_at v)) ≡ false
      → is_gt (spot_cmp s spot) ≡ false

abbrev AllAbove : List Spot → List ℕ → Type 0
AllAbove spots v = (s : Spot) → has_spot spots s ≡ true → is_gt (spot_cmp s (spot_at v)) ≡ true

module _ (x : Spot) (xs : List Spot) (v : List ℕ) where
  -- the first spot is above the version
  over : is_gt (spot_cmp x (spot_at v)) ≡ true → (s : Spot) → is_eq (spot_cmp x s) ≡ true
      → is_gt (spot_cmp s (spot_at v)) ≡ true
  over above s same = ap is_gt (alike_to x s (spot_at v) same) ∙ above

  pass_over : is_gt (spot_cmp x (spot_at v)) ≡ true → Highest xs v → Highest (x ∷ xs) v
  pass_over above h = record {
    spot = h.spot;
    among = λ p none. h.among p (or_parts (p x) (list_any p xs) none).1;
    within = h.within;
    most = λ s has low. elim (or_cases (is_eq (spot_cmp x s)) (has_spot xs s) has) [
      | inl same ↦ absurd (let both = sym (over above s same) ∙ low in cc)
      | inr later ↦ h.most s later low
    ];
  }

  still_above : is_gt (spot_cmp x (spot_at v)) ≡ true → AllAbove xs v → AllAbove (x ∷ xs) v
  still_above above all s has = elim (or_cases (is_eq (spot_cmp x s)) (has_spot xs s) has) [
    | inl same ↦ over above s same
    | inr later ↦ all s later
  ]

  the_first : is_gt (spot_cmp x (spot_at v)) ≡ false → AllAbove xs v → Highest (x ∷ xs) v
  the_first low all = record {
    spot = x;
    among = λ p none. (or_parts (p x) (list_any p xs) none).0;
    within = low;
    most = λ s has within. elim (or_cases (is_eq (spot_cmp x s)) (has_spot xs s) has) [
      | inl same ↦ same_within x s same
      | inr later ↦ absurd (let both = sym (all s later) ∙ within in cc)
    ];
  }

  a_lower : (h : Highest xs v) → is_gt (spot_cmp x h.spot) ≡ false → Highest (x ∷ xs) v
  a_lower h under = record {
    spot = h.spot;
    among = λ p none. h.among p (or_parts (p x) (list_any p xs) none).1;
    within = h.within;
    most = λ s has low. elim (or_cases (is_eq (spot_cmp x s)) (has_spot xs s) has) [
      | inl same ↦ ap is_gt (alike_to x s h.spot same) ∙ under
      | inr later ↦ h.most s later low
    ];
  }

  a_higher : (h : Highest xs v) → is_gt (spot_cmp x (spot_at v)) ≡ false
      → is_gt (spot_cmp x h.spot) ≡ true → Highest (x ∷ xs) v
  a_higher h low over = record {
    spot = x;
    among = λ p none. (or_parts (p x) (list_any p xs) none).0;
    within = low;
    most = λ s has within. elim (or_cases (is_eq (spot_cmp x s)) (has_spot xs s) has) [
      | inl same ↦ same_within x s same
      | inr later ↦ upto spot_total s h.spot x (h.most s later within)
          (ap is_gt (spot_total.antisymm h.spot x) ∙ turned (spot_cmp x h.spot) over)
    ];
  }

find_highest : (spots : List Spot) (v : List ℕ) → Highest spots v ⊎ AllAbove spots v
find_highest [] v = inr (λ s has. absurd cc)
find_highest (x ∷ xs) v = elim (cases_Bool (is_gt (spot_cmp x (spot_at v)))) [
  | inl above ↦ elim (find_highest xs v) [
    | inl h ↦ inl (pass_over x xs v above h)
    | inr all ↦ inr (still_above x xs v above all)
  ]
  | inr low ↦ elim (find_highest xs v) [
    | inl h ↦ elim (cases_Bool (is_gt (spot_cmp x h.spot))) [
      | inl over ↦ inl (a_higher x xs v h low over)
      | inr under ↦ inl (a_lower x xs v h under)
    ]
    | inr all ↦ inl (the_first x xs v low all)
  ]
]

-- no version is below the lowest
zero_within : (n : ℕ) → is_gt (nat_cmp 0 n) ≡ false
zero_within zero = refl
zero_within (suc n) =
    let some : 0 < suc n = omega arith in ap is_gt (sym (nat_cmp_is 0 (suc n) Less some))

then_within : (o p : Ordering) → is_gt o ≡ false → is_gt p ≡ false
    → is_gt (ordering_then o p) ≡ false
then_within Less p h k = refl
then_within Equal p h k = k
then_within Greater p h k = h

lowest_within : (v : List ℕ) → is_gt (spot_cmp lowest_spot (spot_at v)) ≡ false
lowest_within v =
    then_within (version_cmp (replicate 4 0) v) Equal
    (then_within (place_cmp (replicate 4 0) v 0) _ (zero_within (slice_index v 0))
    (then_within (place_cmp (replicate 4 0) v 1) _ (zero_within (slice_index v 1))
    (then_within (place_cmp (replicate 4 0) v 2) _ (zero_within (slice_index v 2))
    (zero_within (slice_index v 3))))) refl

pub highest : (spots : List Spot) (v : List ℕ) → has_spot spots lowest_spot ≡ true → Highest spots v
highest spots v has = elim (find_highest spots v) [
  | inl h ↦ h
  | inr all ↦ absurd (let both = sym (all lowest_spot has) ∙ lowest_within v in cc)
]

-- ---- the spot has the same result as the version in each test of a version

-- the spot just above a version is above it
rises : (w : List ℕ) → spot_cmp (spot_at w) (just_above w) ≡ Less
rises w = ap (λ o. ordering_then o Less) (tied_itself version_total w)

module _ (spots : List Spot) (v w : List ℕ) (h : Highest spots v)
    (has_at : has_spot spots (spot_at w) ≡ true)
    (has_above : has_spot spots (just_above w) ≡ true) where
  -- the version is a named one
  answers_same : spot_cmp (spot_at v) (spot_at w) ≡ Equal → spot_cmp h.spot (spot_at w) ≡ Equal
  answers_same same =
      let back = tied_back spot_total (spot_at v) (spot_at w) same in
      leveled (spot_cmp h.spot (spot_at w))
      (upto spot_total h.spot (spot_at v) (spot_at w) h.within (ap is_gt same))
      (ap is_gt (sym (spot_total.antisymm (spot_at w) h.spot))
      ∙ h.most (spot_at w) has_at (ap is_gt back))

  -- the version is below the named one
  answers_below : (r : Ordering) → spot_cmp h.spot (spot_at v) ≡ r
      → spot_cmp (spot_at v) (spot_at w) ≡ Less → spot_cmp h.spot (spot_at w) ≡ Less
  answers_below Less is below = spot_total.trans h.spot (spot_at v) (spot_at w) is below
  answers_below Equal is below = spot_total.congr h.spot (spot_at v) (spot_at w) is ∙ below
  answers_below Greater is below = absurd (let both = sym h.within ∙ ap is_gt is in cc)

  -- the version is above the named one
  climbs : (r : Ordering) → spot_cmp (just_above w) h.spot ≡ r
      → is_gt (spot_cmp (just_above w) h.spot) ≡ false → spot_cmp (spot_at w) h.spot ≡ Less
  climbs Less is low = spot_total.trans (spot_at w) (just_above w) h.spot (rises w) is
  climbs Equal is low =
      sym (alike_right spot_total (just_above w) h.spot (spot_at w) is) ∙ rises w
  climbs Greater is low = absurd (let both = sym low ∙ ap is_gt is in cc)

  answers_above : version_cmp v w ≡ Greater → spot_cmp h.spot (spot_at w) ≡ Greater
  answers_above over =
      let lower : version_cmp w v ≡ Less =
      version_total.antisymm w v ∙ ap ordering_reverse over in
      let low : is_gt (spot_cmp (just_above w) (spot_at v)) ≡ false =
      ap (λ o. is_gt (ordering_then o Greater)) lower in
      spot_total.antisymm h.spot (spot_at w)
      ∙ ap ordering_reverse (climbs (spot_cmp (just_above w) h.spot) refl
      (h.most (just_above w) has_above low))

  answers_by : (r : Ordering) → version_cmp v w ≡ r → spot_cmp h.spot (spot_at w) ≡ r
  answers_by Equal is = answers_same (at_alike v w ∙ is)
  answers_by Less is =
      answers_below (spot_cmp h.spot (spot_at v)) refl (at_alike v w ∙ is)
  answers_by Greater is = answers_above is

  pub answers_alike : spot_cmp h.spot (spot_at w) ≡ version_cmp v w
  answers_alike = answers_by (version_cmp v w) refl

-- ---- an added spot

pub added : (spots : List Spot) (s : Spot) → has_spot (add_spot spots s) s ≡ true
added spots s = by (has_spot spots s) refl
  where
    by : (b : Bool) → has_spot spots s ≡ b
        → has_spot (if b then spots else spots ++ s ∷ []) s ≡ true
    by true is = is
    by false is =
        list_any-append (λ t. is_eq (spot_cmp t s)) spots (s ∷ [])
        ∙ or_right (has_spot spots s) (is_eq (spot_cmp s s) || false)
        (or_left (is_eq (spot_cmp s s)) false (ap is_eq (tied_itself spot_total s)))

pub still_has : (spots : List Spot) (t s : Spot) → has_spot spots s ≡ true
    → has_spot (add_spot spots t) s ≡ true
still_has spots t s has = by (has_spot spots t)
  where
    by : (b : Bool) → has_spot (if b then spots else spots ++ t ∷ []) s ≡ true
    by true = has
    by false =
        list_any-append (λ x. is_eq (spot_cmp x s)) spots (t ∷ [])
        ∙ or_left (has_spot spots s) (is_eq (spot_cmp t s) || false) has
