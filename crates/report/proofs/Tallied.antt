-- What counting a name some times more changes in a table: its row goes up, it gets a row, or it is
-- one of the others. Then lists of names, one after another.
use Rattle.std.proofs.Common.{◌≡◌, ℕ, ◌+◌, ◌^◌, ◌-◌, ◌<◌, ◌≤◌, List, [], ◌++◌, refl}
use Rattle.std.proofs.Common.{sym, ap, ◌∙◌}
use Rattle.std.proofs.Common.{Bool, true, false, cond, Option, Some, None, is_none, is_some, min}
use Rattle.std.proofs.Common.{arith}
use Rattle.std.proofs.Common.{append_assoc, append-nil, count_by, replicate, subst, ◌*◌}
use Rattle.std.proofs.Common.{if◌then◌else◌}
use Rattle.std.specs.BTreeMap.{btree_map_len, get_by_text}
use Rattle.std.specs.Str.{bytes_eq}
use Rattle.std.specs.Cmp.Lexicographic.{bytes_decides, nat_list_eq_equiv}
use Rattle.std.proofs.lemmas.List.Folds.{sum_by-replicate}
use Rattle.std.proofs.lemmas.List.Sums.{sum_by-append, sum_by-le-sum_by}
use Rattle.report.specs.Tallies.{RowName, capped, occurrences_of, has_no_row, IsTally, Notes, Sets}
use Rattle.report.specs.declared.tally.Tally.{Tally}

-- ---- counts

times_one : (k : ℕ) (b : Bool) → k * cond b 1 0 ≡ cond b k 0
times_one k true = omega arith
times_one k false = omega arith

count_push : {X : Type 0} (p : X → Bool) (xs : List X) (k : ℕ) (x : X)
    → count_by p (xs ++ replicate k x) ≡ count_by p xs + cond (p x) k 0
count_push p xs k x =
    sum_by-append _ xs (replicate k x)
    ∙ ap (λ (n : ℕ). count_by p xs + n) (sum_by-replicate _ k x ∙ times_one k (p x))

at_most : (b c : Bool) → (c ≡ true → b ≡ true) → cond c 1 0 ≤ cond b 1 0
at_most b false more = omega arith
at_most b true more = rw (more refl) (omega arith)

fewer : {X : Type 0} (p q : X → Bool) (xs : List X) → ((x : X) → q x ≡ true → p x ≡ true)
    → count_by q xs ≤ count_by p xs
fewer p q xs more = sum_by-le-sum_by _ _ xs (λ x. at_most (p x) (q x) (more x))

same_count : {X : Type 0} (p q : X → Bool) (xs : List X) → ((x : X) → p x ≡ q x)
    → count_by p xs ≡ count_by q xs
same_count {X} p q xs same = ap (λ (r : X → Bool). count_by r xs) (λ i. λ x. same x i)

some_is : (m k : ℕ) → Some m ≡ Some k → m ≡ k
some_is m k same = cc

no_some : {A : Type 0} (a : A) (o : Option A) → o ≡ None → o ≡ Some a → ⊥
no_some a o none some = cc

-- a number that goes up with the count, and one that stays as the count does
counted_up : (times n m k c d : ℕ) (b : Bool) → 0 < times → n ≡ capped c
    → m ≡ min (n + times) (2 ^ 64 - 1) → m ≡ k
    → b ≡ true → d ≡ c + cond b times 0 → (0 < k) × (k ≡ capped d)
counted_up times n m k c d true some n_is m_is k_is holds d_is = grind arith
counted_up times n m k c d false some n_is m_is k_is holds d_is = cc

counted_on : (times k c d : ℕ) (b : Bool) → (0 < k) × (k ≡ capped c) → b ≡ false
    → d ≡ c + cond b times 0 → (0 < k) × (k ≡ capped d)
counted_on times k c d true was fails d_is = cc
counted_on times k c d false was fails d_is = (was.0, was.1 ∙ ap capped (sym (as_many c d d_is)))
  where
    as_many : (c d : ℕ) → d ≡ c + cond false times 0 → d ≡ c
    as_many c d d_is = omega (arith, d_is)

as_itself : (k : ℕ) → k < 2 ^ 64 → k ≡ min (0 + k) (2 ^ 64 - 1)
as_itself k fits = grind arith

none_zero : (c : ℕ) → 0 ≡ capped c → c ≡ 0
none_zero c is = grind arith

zero_if_none : (n : ℕ) → (0 < n → ⊥) → n ≡ 0
zero_if_none n not_more = omega arith

-- ---- a table whose row is set

module _ (times : ℕ) (old new : Tally) (name : RowName) (m : ℕ) (sets : Sets old new name m) where
  set_at : (other : RowName) → bytes_eq name other ≡ true → get_by_text new.rows other ≡ Some m
  set_at other same = let row = sets.row other in rw same at row

  kept_at : (other : RowName) → bytes_eq name other ≡ false
      → get_by_text new.rows other ≡ get_by_text old.rows other
  kept_at other differs = let row = sets.row other in rw differs at row

  has_now : has_no_row new name ≡ false
  has_now = ap is_none (set_at name ((bytes_decides name name).1 refl))

  -- a name without a row now had none before
  had_none : (other : RowName) (b : Bool) → bytes_eq name other ≡ b
      → has_no_row new other ≡ true → has_no_row old other ≡ true
  had_none other true same none =
      let has : has_no_row new other ≡ false = ap is_none (set_at other same) in
      cc
  had_none other false differs none = sym (ap is_none (kept_at other differs)) ∙ none

  kept_count : (before : List RowName) (k : ℕ) (other : RowName)
      → ((0 < k) × (k ≡ capped (occurrences_of other before))) → bytes_eq name other ≡ false
      → (0 < k) × (k ≡ capped (occurrences_of other (before ++ replicate times name)))
  kept_count before k other was differs =
      counted_on times k (occurrences_of other before)
      (occurrences_of other (before ++ replicate times name)) (bytes_eq other name) was
      (nat_list_eq_equiv.symm other name ∙ differs)
      (count_push (bytes_eq other) before times name)

  others_behind : (before : List RowName)
      → count_by (has_no_row new) (before ++ replicate times name)
      ≡ count_by (has_no_row new) before
  others_behind before =
      count_push (has_no_row new) before times name
      ∙ ap (λ (b : Bool). count_by (has_no_row new) before + cond b times 0) has_now
      ∙ (omega arith)

-- ---- the row of a name goes up

module _ (times : ℕ) (old new : Tally) (name : RowName) (n m : ℕ) (some : 0 < times)
    (had : get_by_text old.rows name ≡ Some n)
    (more : m ≡ min (n + times) (2 ^ 64 - 1)) (sets : Sets old new name m) where
  had_row : has_no_row old name ≡ false
  had_row = ap is_none had

  as_before : (other : RowName) (b : Bool) → bytes_eq name other ≡ b
      → has_no_row new other ≡ has_no_row old other
  as_before other true same =
      ap is_none (set_at times old new name m sets other same)
      ∙ sym (ap (has_no_row old) (sym ((bytes_decides name other).0 same)) ∙ had_row)
  as_before other false differs = ap is_none (kept_at times old new name m sets other differs)

  module _ (limit : ℕ) (before : List RowName) (counted : IsTally limit before old) where
    up_row : (other : RowName) (k : ℕ) → get_by_text new.rows other ≡ Some k
        → (b : Bool) → bytes_eq name other ≡ b
        → (0 < k) × (k ≡ capped (occurrences_of other (before ++ replicate times name)))
    up_row other k found true same =
        counted_up times n m k (occurrences_of other before)
        (occurrences_of other (before ++ replicate times name)) (bytes_eq other name) some
        ((counted.rows name n had).1
        ∙ ap (λ (t : RowName). capped (occurrences_of t before))
        ((bytes_decides name other).0 same))
        more (some_is m k (sym (set_at times old new name m sets other same) ∙ found))
        (nat_list_eq_equiv.symm other name ∙ same)
        (count_push (bytes_eq other) before times name)
    up_row other k found false differs =
        kept_count times old new name m sets before k other
        (counted.rows other k
        (sym (kept_at times old new name m sets other differs) ∙ found)) differs

    up_others : new.others ≡ capped (count_by (has_no_row new) (before ++ replicate times name))
    up_others =
        sets.others ∙ counted.others
        ∙ ap capped (sym (others_behind times old new name m sets before
        ∙ same_count _ _ before (λ x. as_before x (bytes_eq name x) refl)))

    as_long : btree_map_len new.rows ≡ btree_map_len old.rows
    as_long =
        sets.len
        ∙ ap (λ (b : Bool). btree_map_len old.rows + (if b then 1 else 0)) had_row
        ∙ (omega arith)

    up : IsTally limit (before ++ replicate times name) new
    up = record {
      rows = λ other k found. up_row other k found (bytes_eq name other) refl;
      others = up_others;
      full = λ others. rw as_long (counted.full (rw (sets.others) at others));
      within = rw as_long counted.within;
      limit_is = sets.limit ∙ counted.limit_is;
    }

  pub goes_up : Notes old new (replicate times name)
  goes_up = record { extends = up }

-- ---- a name gets a row

module _ (times : ℕ) (old new : Tally) (name : RowName) (some : 0 < times)
    (fits : times < 2 ^ 64) (none : get_by_text old.rows name ≡ None)
    (free : btree_map_len old.rows < old.limit) (sets : Sets old new name times) where
  had_no_row : has_no_row old name ≡ true
  had_no_row = ap is_none none

  named_in : (x : RowName) → bytes_eq name x ≡ true → has_no_row old x ≡ true
  named_in x same = ap (has_no_row old) (sym ((bytes_decides name x).0 same)) ∙ had_no_row

  module _ (limit : ℕ) (before : List RowName) (counted : IsTally limit before old) where
    no_others : old.others ≡ 0
    no_others =
        zero_if_none old.others
        (λ others. omega (arith, counted.full others, counted.limit_is, free))

    all_have_rows : count_by (has_no_row old) before ≡ 0
    all_have_rows = none_zero _ (sym no_others ∙ counted.others)

    unseen : occurrences_of name before ≡ 0
    unseen = omega (arith, fewer (has_no_row old) (bytes_eq name) before named_in, all_have_rows)

    first_row : (other : RowName) (k : ℕ) → get_by_text new.rows other ≡ Some k
        → (b : Bool) → bytes_eq name other ≡ b
        → (0 < k) × (k ≡ capped (occurrences_of other (before ++ replicate times name)))
    first_row other k found true same =
        counted_up times 0 times k (occurrences_of other before)
        (occurrences_of other (before ++ replicate times name)) (bytes_eq other name) some
        (sym (ap capped (sym (ap (λ (t : RowName). occurrences_of t before)
        ((bytes_decides name other).0 same)) ∙ unseen)))
        (as_itself times fits)
        (some_is times k (sym (set_at times old new name times sets other same) ∙ found))
        (nat_list_eq_equiv.symm other name ∙ same)
        (count_push (bytes_eq other) before times name)
    first_row other k found false differs =
        kept_count times old new name times sets before k other
        (counted.rows other k
        (sym (kept_at times old new name times sets other differs) ∙ found)) differs

    none_behind : count_by (has_no_row new) (before ++ replicate times name) ≡ 0
    none_behind = omega (
      arith,
      others_behind times old new name times sets before,
      fewer (has_no_row old) (has_no_row new) before
          (λ x. had_none times old new name times sets x (bytes_eq name x) refl),
      all_have_rows,
    )

    one_longer : btree_map_len new.rows ≡ btree_map_len old.rows + 1
    one_longer =
        sets.len ∙ ap (λ (b : Bool). btree_map_len old.rows + (if b then 1 else 0)) had_no_row

    begun : IsTally limit (before ++ replicate times name) new
    begun = record {
      rows = λ other k found. first_row other k found (bytes_eq name other) refl;
      others = sets.others ∙ no_others ∙ sym (ap capped none_behind);
      full = λ others. absurd (omega (arith, others, sets.others, no_others));
      within = omega (arith, one_longer, free, counted.limit_is);
      limit_is = sets.limit ∙ counted.limit_is;
    }

  pub gets_row : Notes old new (replicate times name)
  gets_row = record { extends = begun }

-- ---- a name counts among the others

module _ (times : ℕ) (old new : Tally) (name : RowName) (some : 0 < times)
    (none : get_by_text old.rows name ≡ None) (full : old.limit ≤ btree_map_len old.rows)
    (rows : new.rows ≡ old.rows) (limit_is : new.limit ≡ old.limit)
    (more : new.others ≡ min (old.others + times) (2 ^ 64 - 1)) where
  module _ (limit : ℕ) (before : List RowName) (counted : IsTally limit before old) where
    other_row : (other : RowName) (k : ℕ) → get_by_text old.rows other ≡ Some k
        → (b : Bool) → bytes_eq name other ≡ b
        → (0 < k) × (k ≡ capped (occurrences_of other (before ++ replicate times name)))
    other_row other k found true same =
        absurd (no_some k (get_by_text old.rows name) none
        (ap (get_by_text old.rows) ((bytes_decides name other).0 same) ∙ found))
    other_row other k found false differs =
        counted_on times k (occurrences_of other before)
        (occurrences_of other (before ++ replicate times name)) (bytes_eq other name)
        (counted.rows other k found)
        (nat_list_eq_equiv.symm other name ∙ differs)
        (count_push (bytes_eq other) before times name)

    one_other : new.others ≡ capped (count_by (has_no_row old) (before ++ replicate times name))
    one_other = (counted_up times old.others new.others new.others
        (count_by (has_no_row old) before)
        (count_by (has_no_row old) (before ++ replicate times name)) (has_no_row old name) some
        counted.others more refl (ap is_none none)
        (count_push (has_no_row old) before times name)).1

    joined : IsTally limit (before ++ replicate times name) new
    joined = record {
      rows = λ other k found. other_row other k (rw rows at found) (bytes_eq name other) refl;
      others = rw rows one_other;
      full = λ others. rw rows (omega (arith, full, counted.limit_is));
      within = rw rows counted.within;
      limit_is = limit_is ∙ counted.limit_is;
    }

  pub joins_others : Notes old new (replicate times name)
  joins_others = record { extends = joined }

pub len_after : (n m : ℕ) (o p : Option ℕ) → o ≡ p → m ≡ n + (if is_some o then 0 else 1)
    → m ≡ n + (if is_none p then 1 else 0)
len_after n m None p same is =
    subst (λ (q : Option ℕ). m ≡ n + (if is_none q then 1 else 0)) same is
len_after n m (Some k) p same is =
    subst (λ (q : Option ℕ). m ≡ n + (if is_none q then 1 else 0)) same is

-- ---- names after names

pub notes_none : (t : Tally) → Notes t t []
notes_none t = record {
  extends = λ limit before counted.
      subst (λ (names : List RowName). IsTally limit names t) (sym (append-nil before)) counted;
}

pub notes_no_times : (times : ℕ) (t : Tally) (name : RowName) → times ≡ 0
    → Notes t t (replicate times name)
notes_no_times times t name none = rw none (notes_none t)

pub notes_both : (a b c : Tally) (xs ys : List RowName)
    → Notes a b xs → Notes b c ys → Notes a c (xs ++ ys)
notes_both a b c xs ys first last = record {
  extends = λ limit before counted.
      subst (λ (names : List RowName). IsTally limit names c) (append_assoc before xs ys)
      (last.extends limit (before ++ xs) (first.extends limit before counted));
}

pub empty_tally : (limit : ℕ) (t : Tally) → t.others ≡ 0 → btree_map_len t.rows ≡ 0
    → t.limit ≡ limit → ((name : RowName) → get_by_text t.rows name ≡ None) → IsTally limit [] t
empty_tally limit t none_else none_long limit_is none = record {
  rows = λ name n found. absurd (no_some n _ (none name) found);
  others = none_else;
  full = λ some. absurd (omega (arith, some, none_else));
  within = omega (arith, none_long);
  limit_is = limit_is;
}
