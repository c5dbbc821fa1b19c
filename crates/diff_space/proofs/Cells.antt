-- A number lies in its cell, and the number at which its cell begins compares as it does.
use Rattle.std.proofs.Common.{◌≡◌, ℕ, suc, ◌+◌, ◌-◌, ◌<◌, ◌≤◌, List, [], ◌∷◌, length, Bool, true}
use Rattle.std.proofs.Common.{false, not, ◌&&◌, ◌||◌, inl, inr, Some, cond, count_by, add-zero}
use Rattle.std.proofs.Common.{refl, sym, ap, ap₂, subst, ◌∙◌, arith, leb-true, eqb-true, ltb-true}
use Rattle.std.proofs.Common.{le-leb, lt-ltb, le-ltb, eq-eqb, Less, Equal, Greater}
use Rattle.std.specs.Prelude.{nat_le, nat_lt, ◌==◌, slice_get, slice_index}
use Rattle.std.specs.Cmp.{nat_cmp_is}
use Rattle.std.specs.List.{list_any}
use Rattle.std.specs.Ordering.{nat_cmp}
use Rattle.std.specs.declared.cmp.Ordering.{Ordering}
use Rattle.std.proofs.lemmas.Bool.{and_parts, cases_lt, cases_order, lt-leb, or_cases, or_left}
use Rattle.std.proofs.lemmas.List.Sums.{sum_by-cons}
use Rattle.rule_lang.specs.Meaning.{allows}
use Rattle.rule_lang.specs.declared.test.Comparison.{Comparison}
use Rattle.rule_lang.specs.declared.test.Comparison.TheVariants.{Lt, Le, Eq, Ne, Ge, Gt}
use Rattle.diff_space.specs.Numbers.{are_rising, begin_at, cell_at, decides, has_cut}
use Rattle.diff_space.specs.Numbers.{is_rising_from}

-- ---- the cell of a number

abbrev pub upto : ℕ → List ℕ → ℕ
upto v starts = count_by (λ start. nat_le start v) starts

upto-cons : (v x : ℕ) (xs : List ℕ) → upto v (x ∷ xs) ≡ cond (nat_le x v) 1 0 + upto v xs
upto-cons v x xs = sum_by-cons (λ start. cond (nat_le start v) 1 0) x xs

counts : (v x : ℕ) (xs : List ℕ) → x ≤ v → upto v (x ∷ xs) ≡ suc (upto v xs)
counts v x xs low =
    let one = ap (λ (b : Bool). cond b 1 0 + upto v xs) (le-leb x v low) in
    upto-cons v x xs ∙ one ∙ omega arith

skips : (v x : ℕ) (xs : List ℕ) → v < x → upto v (x ∷ xs) ≡ upto v xs
skips v x xs over =
    let none = ap (λ (b : Bool). cond b 1 0 + upto v xs) (lt-leb x v over) in
    upto-cons v x xs ∙ none ∙ omega arith

-- of the ends before `left`, `count` are at most the number v
pub record Counts (v : ℕ) (starts : List ℕ) (count : ℕ) (left : List ℕ) : Type 0 where
  pub all : count + upto v left ≡ upto v starts
  pub room : count + length left ≤ length starts

pub next_in : (v e count : ℕ) (starts others : List ℕ) → e ≤ v → Counts v starts count (e ∷ others)
    → Counts v starts (count + 1) others
next_in v e count starts others low h = record {
  all =
      let one = counts v e others low in
      let all = h.all in omega arith;
  room = let room = h.room in omega arith;
}

pub next_out : (v e count : ℕ) (starts others : List ℕ) → v < e → Counts v starts count (e ∷ others)
    → Counts v starts count others
next_out v e count starts others over h = record {
  all = ap (λ (n : ℕ). count + n) (sym (skips v e others over)) ∙ h.all;
  room = let room = h.room in omega arith;
}

pub at_end : (v count : ℕ) (starts : List ℕ) → Counts v starts count [] → count - 1
    ≡ cell_at starts v
at_end v count starts h =
    ap (λ (n : ℕ). n - 1) (sym (add-zero count) ∙ h.all)

-- no end is at most a number that is below the first
none_upto : (last v x : ℕ) (xs : List ℕ) → is_rising_from last x xs ≡ true → v < x
    → upto v (x ∷ xs) ≡ 0
none_upto last v x [] rising over = skips v x [] over
none_upto last v x (y ∷ ys) rising over =
    let both = and_parts (nat_lt x y) (is_rising_from last y ys) rising in
    let more : x < y = ltb-true x y both.0 in
    let further : v < y = omega arith in
    skips v x (y ∷ ys) over ∙ none_upto last v y ys both.1 further

above_all : (last v x : ℕ) (xs : List ℕ) → is_rising_from last x xs ≡ true → v < x
    → (n : ℕ) → list_any (λ start. start == n) (x ∷ xs) ≡ true → v < n
above_all last v x [] rising over n is = elim (or_cases (x == n) false is) [
  | inl same ↦ let e : x ≡ n = eqb-true x n same in omega arith
  | inr none ↦ absurd cc
]
above_all last v x (y ∷ ys) rising over n is =
    let both = and_parts (nat_lt x y) (is_rising_from last y ys) rising in
    let more : x < y = ltb-true x y both.0 in
    let further : v < y = omega arith in
    elim (or_cases (x == n) (list_any (λ start. start == n) (y ∷ ys)) is) [
      | inl same ↦ let e : x ≡ n = eqb-true x n same in omega arith
      | inr later ↦ above_all last v y ys both.1 further n later
    ]

-- the cell c has the number v: no other end up to v is above the cell's begin
pub record IsAt (starts : List ℕ) (v c : ℕ) : Type 0 where
  pub is_cell : c < length starts
  pub begin : slice_index starts c ≤ v
  pub end : (next : ℕ) → slice_get starts (suc c) ≡ Some next → v < next
  pub most : (n : ℕ) → list_any (λ start. start == n) starts ≡ true → n ≤ v
      → n ≤ slice_index starts c

first_there : (x : ℕ) (xs : List ℕ) → list_any (λ start. start == x) (x ∷ xs) ≡ true
first_there x xs = or_left (x == x) (list_any (λ start. start == x) xs) (eq-eqb x x refl)

the_first : (last v x : ℕ) (xs : List ℕ) → is_rising_from last x xs ≡ true → x ≤ v
    → ((n : ℕ) → list_any (λ start. start == n) xs ≡ true → v < n) → IsAt (x ∷ xs) v 0
the_first last v x xs rising low above = record {
  is_cell = omega arith;
  begin = low;
  end = λ next is. above next (next_there xs next is);
  most = λ n is within. elim (or_cases (x == n) (list_any (λ start. start == n) xs) is) [
    | inl same ↦ let e : x ≡ n = eqb-true x n same in omega arith
    | inr later ↦ let over = above n later in absurd (omega arith)
  ];
}
  where
    next_there : (ys : List ℕ) (next : ℕ) → slice_get ys 0 ≡ Some next
        → list_any (λ start. start == next) ys ≡ true
    next_there [] next is = absurd cc
    next_there (y ∷ ys) next is =
        let e : y ≡ next = cc in
        subst (λ (n : ℕ). list_any (λ start. start == n) (y ∷ ys) ≡ true) e (first_there y ys)

a_later : (v x y c : ℕ) (ys : List ℕ) → x < y → y ≤ v → IsAt (y ∷ ys) v c
    → IsAt (x ∷ y ∷ ys) v (suc c)
a_later v x y c ys more low h = record {
  is_cell = let there = h.is_cell in omega arith;
  begin = h.begin;
  end = h.end;
  most = λ n is within. elim (or_cases (x == n) (list_any (λ start. start == n) (y ∷ ys)) is) [
    | inl same ↦
        let e : x ≡ n = eqb-true x n same in
        let from : y ≤ slice_index (y ∷ ys) c = h.most y (first_there y ys) low in
        omega arith
    | inr later ↦ h.most n later within
  ];
}

at_count : (last v x : ℕ) (xs : List ℕ) → is_rising_from last x xs ≡ true → x ≤ v
    → IsAt (x ∷ xs) v (upto v xs)
at_count last v x [] rising low = the_first last v x [] rising low (λ n is. absurd cc)
at_count last v x (y ∷ ys) rising low =
    let both = and_parts (nat_lt x y) (is_rising_from last y ys) rising in
    elim (cases_lt v y) [
      | inl over ↦ subst (IsAt (x ∷ y ∷ ys) v) (sym (none_upto last v y ys both.1 over))
          (the_first last v x (y ∷ ys) rising low (above_all last v y ys both.1 over))
      | inr within ↦ subst (IsAt (x ∷ y ∷ ys) v) (sym (counts v y ys within))
          (a_later v x y (upto v ys) ys (ltb-true x y both.0) within
          (at_count last v y ys both.1 within))
    ]

pub is_at : (last v : ℕ) (starts : List ℕ) → are_rising last starts ≡ true
    → slice_index starts 0 ≤ v
    → IsAt starts v (cell_at starts v)
is_at last v [] rising low = absurd cc
is_at last v (x ∷ xs) rising low =
    let is : cell_at (x ∷ xs) v ≡ upto v xs =
    ap (λ (n : ℕ). n - 1) (counts v x xs low) ∙ omega arith in
    subst (IsAt (x ∷ xs) v) (sym is) (at_count last v x xs rising low)

-- ---- comparisons

-- a comparison by whether one number is below another, and below the next one after that
abbrev by_below : Comparison → (below upto : Bool) → Bool
by_below Lt below upto = below
by_below Le below upto = upto
by_below Eq below upto = not below && upto
by_below Ne below upto = below || not upto
by_below Ge below upto = not below
by_below Gt below upto = not upto

at_less : (r : Comparison) → allows r Less ≡ by_below r true true
at_less Lt = refl
at_less r = refl

at_equal : (r : Comparison) → allows r Equal ≡ by_below r false true
at_equal Lt = refl
at_equal r = refl

at_greater : (r : Comparison) → allows r Greater ≡ by_below r false false
at_greater Lt = refl
at_greater r = refl

by_parts : (r : Comparison) (m n : ℕ) (o : Ordering) (b u : Bool) → o ≡ nat_cmp m n
    → nat_lt m n ≡ b → nat_lt m (n + 1) ≡ u → allows r o ≡ by_below r b u
    → allows r (nat_cmp m n) ≡ by_below r (nat_lt m n) (nat_lt m (n + 1))
by_parts r m n o b u is below upto same =
    ap (allows r) (sym is) ∙ same ∙ sym (ap₂ (by_below r) below upto)

allows_is : (r : Comparison) (m n : ℕ)
    → allows r (nat_cmp m n) ≡ by_below r (nat_lt m n) (nat_lt m (n + 1))
allows_is r m n = elim (cases_order m n) [
  | inl same ↦ by_parts r m n Equal false true (nat_cmp_is m n Equal same)
      (le-ltb m n (omega arith)) (lt-ltb m (n + 1) (omega arith)) (at_equal r)
  | inr (inl less) ↦ by_parts r m n Less true true (nat_cmp_is m n Less less)
      (lt-ltb m n less) (lt-ltb m (n + 1) (omega arith)) (at_less r)
  | inr (inr more) ↦ by_parts r m n Greater false false (nat_cmp_is m n Greater more)
      (le-ltb m n (omega arith)) (le-ltb m (n + 1) (omega arith)) (at_greater r)
]

same_below : (e v n : ℕ) → e ≤ v → (n ≤ v → n ≤ e) → nat_lt e n ≡ nat_lt v n
same_below e v n low more = elim (cases_lt v n) [
  | inl over ↦ lt-ltb e n (omega arith) ∙ sym (lt-ltb v n over)
  | inr within ↦ le-ltb e n (more within) ∙ sym (le-ltb v n within)
]

first_upto : (starts : List ℕ) (v c : ℕ) → slice_index starts 0 ≤ v → IsAt starts v c
    → slice_index starts 0 ≤ slice_index starts c
first_upto [] v c low h = let none = h.is_cell in absurd (omega arith)
first_upto (x ∷ xs) v c low h = h.most x (first_there x xs) low

module _ (starts : List ℕ) (last v c : ℕ) (low : slice_index starts 0 ≤ v) (high : v ≤ last)
    (h : IsAt starts v c) where
  at_cut : (n : ℕ) → has_cut starts last n ≡ true
      → nat_lt (slice_index starts c) n ≡ nat_lt v n
  at_cut n cut =
      same_below (slice_index starts c) v n h.begin
      (λ within. elim (or_cases (nat_le n (slice_index starts 0) || nat_lt last n)
      (list_any (λ start. start == n) starts) cut) [
        | inl outside ↦
            elim (or_cases (nat_le n (slice_index starts 0)) (nat_lt last n) outside) [
              | inl before ↦
                  let from : n ≤ slice_index starts 0 = leb-true n (slice_index starts 0) before in
                  let first = first_upto starts v c low h in omega arith
              | inr after ↦ let over : last < n = ltb-true last n after in absurd (omega arith)
            ]
        | inr there ↦ h.most n there within
      ])

  same_by : (r : Comparison) (n : ℕ) → decides starts last r n ≡ true
      → by_below r (nat_lt (slice_index starts c) n) (nat_lt (slice_index starts c) (n + 1))
      ≡ by_below r (nat_lt v n) (nat_lt v (n + 1))
  same_by Lt n cut = at_cut n cut
  same_by Ge n cut = ap not (at_cut n cut)
  same_by Le n cut = at_cut (n + 1) cut
  same_by Gt n cut = ap not (at_cut (n + 1) cut)
  same_by Eq n cut =
      let both = and_parts (has_cut starts last n) (has_cut starts last (n + 1)) cut in
      ap₂ (λ (b u : Bool). not b && u) (at_cut n both.0) (at_cut (n + 1) both.1)
  same_by Ne n cut =
      let both = and_parts (has_cut starts last n) (has_cut starts last (n + 1)) cut in
      ap₂ (λ (b u : Bool). b || not u) (at_cut n both.0) (at_cut (n + 1) both.1)

  begins_alike_at : (r : Comparison) (n : ℕ) → decides starts last r n ≡ true
      → allows r (nat_cmp (slice_index starts c) n) ≡ allows r (nat_cmp v n)
  begins_alike_at r n cut =
      allows_is r (slice_index starts c) n ∙ same_by r n cut ∙ sym (allows_is r v n)

pub begins_alike : (starts : List ℕ) (last v n : ℕ) (r : Comparison) → are_rising last starts ≡ true
    → slice_index starts 0 ≤ v → v ≤ last → decides starts last r n ≡ true
    → allows r (nat_cmp (begin_at starts v) n) ≡ allows r (nat_cmp v n)
begins_alike starts last v n r rising low high cut =
    begins_alike_at starts last v (cell_at starts v) low high
    (is_at last v starts rising low) r n cut
