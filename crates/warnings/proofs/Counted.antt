-- The number of buckets for which a test holds.
use Rattle.std.proofs.Common.{◌≡◌, ℕ, zero, suc, ◌+◌, ◌-◌, ◌<◌, ◌≤◌, ◌%◌, Option, None, Some}
use Rattle.std.proofs.Common.{Bool, true, false, cond, refl, sym, ap, subst, arith, inl, inr}
use Rattle.std.specs.Prelude.{if◌then◌else◌, min}
use Rattle.std.specs.Cmp.{nat_cmp_is}
use Rattle.std.specs.List.{count_by, range_with_len}
use Rattle.std.specs.Ordering.{nat_cmp}
use Rattle.std.specs.declared.cmp.Ordering.TheVariants.{Less, Equal, Greater}
use Rattle.std.proofs.lemmas.Bool.{cases_lt, cases_order}
use Rattle.std.proofs.lemmas.List.Sums.{sum_by-cons}
use Rattle.attrs.specs.Attributes.{Attributes}
use Rattle.rule_lang.specs.declared.test.Comparison.TheVariants.{Le, Lt}
use Rattle.rule_lang.specs.declared.test.Test.TheVariants as test
use Rattle.rule_lang.specs.Meaning.{allows, bucket_by}
use Rattle.warnings.specs.RuleWarnings.{is_above_all, is_few}
use Rattle.warnings.specs.Runs.{AlwaysHolds, IsSoOfTest, MaySend, TestsAreSo, buckets_that}
use Rattle.warnings.specs.Runs as so
use Rattle.warnings.specs.Warnings.{warned, warned_if}
use Rattle.warnings.specs.declared.warning.WarningPlace.TheVariants as place
use Rattle.warnings.specs.declared.warning.WarningKind.TheVariants as kind

-- ---- numbers

-- exactly the numbers below n pass
pub record PassesBelow (p : ℕ → Bool) (n : ℕ) : Type 0 where
  pub passes : (m : ℕ) → m < n → p m ≡ true
  pub fails : (m : ℕ) → n ≤ m → p m ≡ false

one_more : (b : Bool) (a n rest all count : ℕ) → a < n → b ≡ true → all ≡ cond b 1 0 + rest
    → rest ≡ min (n - (a + 1)) count → all ≡ min (n - a) (suc count)
one_more true a n rest all count within is both more = omega (arith, within, both, more)
one_more false a n rest all count within is both more = absurd cc

none_more : (b : Bool) (a n rest all count : ℕ) → n ≤ a → b ≡ false → all ≡ cond b 1 0 + rest
    → rest ≡ min (n - (a + 1)) count → all ≡ min (n - a) (suc count)
none_more true a n rest all count past is both more = absurd cc
none_more false a n rest all count past is both more = omega (arith, past, both, more)

counted_from : (p : ℕ → Bool) (n : ℕ) → PassesBelow p n → (a count : ℕ)
    → count_by p (range_with_len a count) ≡ min (n - a) count
counted_from p n of a zero = let none : 0 ≡ min (n - a) 0 = omega arith in none
counted_from p n of a (suc count) =
    let more = counted_from p n of (a + 1) count in
    let both = sum_by-cons (λ x. cond (p x) 1 0) a (range_with_len (a + 1) count) in
    elim (cases_lt a n) [
      | inl within ↦ one_more (p a) a n _ _ count within (of.passes a within) both more
      | inr past ↦ none_more (p a) a n _ _ count past (of.fails a past) both more
    ]

pub counted : (p : ℕ → Bool) (n all : ℕ) → PassesBelow p n → n ≤ all
    → count_by p (range_with_len 0 all) ≡ n
counted p n all of within = let some = counted_from p n of 0 all in omega (arith, some, within)

-- ---- comparisons

below : (n : ℕ) → PassesBelow (λ bucket. allows Lt (nat_cmp bucket n)) n
below n = record {
  passes = λ m h. ap (allows Lt) (sym (nat_cmp_is m n Less h));
  fails = λ m h. elim (cases_order m n) [
    | inl same ↦ ap (allows Lt) (sym (nat_cmp_is m n Equal same))
    | inr (inl less) ↦ absurd (omega (arith, h, less))
    | inr (inr more) ↦ ap (allows Lt) (sym (nat_cmp_is m n Greater more))
  ];
}

up_to : (n : ℕ) → PassesBelow (λ bucket. allows Le (nat_cmp bucket n)) (n + 1)
up_to n = record {
  passes = λ m h. elim (cases_order m n) [
    | inl same ↦ ap (allows Le) (sym (nat_cmp_is m n Equal same))
    | inr (inl less) ↦ ap (allows Le) (sym (nat_cmp_is m n Less less))
    | inr (inr more) ↦ absurd (omega (arith, h, more))
  ];
  fails = λ m h.
      let over : n < m = omega (arith, h) in ap (allows Le) (sym (nat_cmp_is m n Greater over));
}

-- ---- buckets

remainder_within : (n : ℕ) → n % 10000 < 10000
remainder_within n = omega arith

bucket_within : (a : Attributes) → MaySend a → (salt : Option ℕ) → bucket_by a salt < 10000
bucket_within a may None = may.ranges.bucket
bucket_within a may (Some salt) = remainder_within _

-- ---- warnings on a test

module _ (app line n : ℕ) (salt : Option ℕ) where
  below_few : is_few n ≡ true → IsSoOfTest app line (test.Bucket salt None Lt n)
      (warned (place.Line app line) (kind.FewBuckets false n n))
  below_few is =
      let some : 0 < n = grind arith in
      let few : n < 100 = grind arith in
      let all : n ≤ 10000 = omega arith in
      let same : buckets_that Lt n ≡ n = counted _ n 10000 (below n) all in
      subst (λ k. IsSoOfTest app line (test.Bucket salt None Lt n)
      (warned (place.Line app line) (kind.FewBuckets false n k))) same
      (so.IsSoOfTest.few_below salt n (subst (λ k. 0 < k) (sym same) some)
      (subst (λ k. k < 100) (sym same) few))

  up_to_few : is_few (n + 1) ≡ true → IsSoOfTest app line (test.Bucket salt None Le n)
      (warned (place.Line app line) (kind.FewBuckets true n (n + 1)))
  up_to_few is =
      let some : 0 < n + 1 = grind arith in
      let few : n + 1 < 100 = grind arith in
      let all : n + 1 ≤ 10000 = omega arith in
      let same : buckets_that Le n ≡ n + 1 = counted _ (n + 1) 10000 (up_to n) all in
      subst (λ k. IsSoOfTest app line (test.Bucket salt None Le n)
      (warned (place.Line app line) (kind.FewBuckets true n k))) same
      (so.IsSoOfTest.few_up_to salt n (subst (λ k. 0 < k) (sym same) some)
      (subst (λ k. k < 100) (sym same) few))

  below_all : is_above_all n ≡ true → AlwaysHolds (test.Bucket salt None Lt n)
  below_all is a may s met unmet =
      let past : 10000 < n = grind arith in
      let bound = bucket_within a may salt in
      let within : bucket_by a salt < n = omega (arith, bound, past) in
      ap (λ x. if x then met else unmet) ((below n).passes (bucket_by a salt) within)

  up_to_all : is_above_all n ≡ true → AlwaysHolds (test.Bucket salt None Le n)
  up_to_all is a may s met unmet =
      let past : 10000 < n = grind arith in
      let bound = bucket_within a may salt in
      let within : bucket_by a salt < n + 1 = omega (arith, bound, past) in
      ap (λ x. if x then met else unmet) ((up_to n).passes (bucket_by a salt) within)

  below_so : (few all : Bool) → is_few n ≡ few → is_above_all n ≡ all
      → IsSoOfTest app line (test.Bucket salt None Lt n)
      (if few then warned (place.Line app line) (kind.FewBuckets false n n)
      else warned_if all (place.Line app line) (kind.AllBuckets false n))
  below_so true all is past = below_few is
  below_so false true is past = so.IsSoOfTest.all_below salt n (below_all past)
  below_so false false is past = so.IsSoOfTest.nothing (test.Bucket salt None Lt n)

  up_to_so : (few all : Bool) → is_few (n + 1) ≡ few → is_above_all n ≡ all
      → IsSoOfTest app line (test.Bucket salt None Le n)
      (if few then warned (place.Line app line) (kind.FewBuckets true n (n + 1))
      else warned_if all (place.Line app line) (kind.AllBuckets true n))
  up_to_so true all is past = up_to_few is
  up_to_so false true is past = so.IsSoOfTest.all_up_to salt n (up_to_all past)
  up_to_so false false is past = so.IsSoOfTest.nothing (test.Bucket salt None Le n)

pub tests_so : TestsAreSo
tests_so app line (test.Bucket salt None Lt n) =
    below_so app line n salt (is_few n) (is_above_all n) refl refl
tests_so app line (test.Bucket salt None Le n) =
    up_to_so app line n salt (is_few (n + 1)) (is_above_all n) refl refl
tests_so app line t = so.IsSoOfTest.nothing t
