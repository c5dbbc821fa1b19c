-- What a machine has fits.
use Rattle.std.proofs.Common.{◌≡◌, ℕ, ◌<◌, ◌≤◌, List, [], ◌∷◌, length, Option, Some, None, Bool}
use Rattle.std.proofs.Common.{true, false, not, ◌&&◌, ◌||◌, inl, inr, refl, sym, ap, subst, ◌∙◌}
use Rattle.std.proofs.Common.{arith, slice_get, is_some, unwrap_or, replicate, eq-eqb, eqb-true}
use Rattle.std.proofs.Common.{le-leb, lt-ltb, get_or}
use Rattle.std.specs.Prelude.{nat_le, nat_lt, ◌==◌, slice_index_or, option_and_then, if◌then◌else◌}
use Rattle.std.specs.List.{list_any}
use Rattle.std.specs.Str.{bytes_eq}
use Rattle.std.proofs.lemmas.Bool.{and_from, cases_lt, false_from_ne_true}
use Rattle.std.proofs.lemmas.List.Elements.{All-from_get_or}
use Rattle.std.proofs.lemmas.List.Folds.{list_any_none}
use Rattle.std.proofs.lemmas.List.Sums.{fails_before_first}
use Rattle.std.proofs.lemmas.Option.{slice_get-get_or, slice_get_past}
use Rattle.std.proofs.lemmas.Slice.Eq.{bytes_eq-Decides}
use Rattle.attrs.specs.Attributes.{kept_text}
use Rattle.attrs.specs.Bucket.{cohort_bucket}
use Rattle.attrs.specs.Version.{version_of}
use Rattle.diff_space.specs.Coordinates.{index_or_count}
use Rattle.diff_space.specs.Fits.{cohort_fits, in_cell, is_bucket, names_bucket, numbers_fit}
use Rattle.diff_space.specs.Fits.{version_fits}
use Rattle.diff_space.specs.Numbers.{version_number}
use Rattle.diff_space.proofs.Cohorts.{one_cohort}
use Rattle.diff_space.proofs.Tests.{found_at}

-- the text at the place of a text among others is this one, or there is none
named_or_not : (texts : List (List ℕ)) (text : List ℕ) (P : Option (List ℕ) → Type 0)
    → P (Some text) → (length texts ≤ index_or_count texts text → P None)
    → P (slice_get texts (index_or_count texts text))
named_or_not texts text P named other = elim (cases_lt (index_or_count texts text) (length texts)) [
  | inl there ↦
      subst P (sym (slice_get-get_or texts (index_or_count texts text) [] there
      ∙ ap (λ (t : List ℕ). Some t) (found_at texts text [] there))) named
  | inr past ↦ subst P (sym (slice_get_past texts (index_or_count texts text) past)) (other past)
]

-- ---- versions

is_in_cell : (low n : ℕ) (high : Option ℕ) → low ≤ n
    → ((next : ℕ) → high ≡ Some next → n < next) → in_cell low high n ≡ true
is_in_cell low n None from to = le-leb low n from
is_in_cell low n (Some next) from to =
    and_from (nat_le low n) (nat_lt n next) (le-leb low n from) (lt-ltb n next (to next refl))

from_zero : (low : ℕ) (numbers : Option (List ℕ))
    → low ≤ version_number (unwrap_or numbers (replicate 4 0))
    → (is_some numbers || (low == 0)) ≡ true
from_zero low None from = eq-eqb low 0 (omega arith)
from_zero low (Some v) from = refl

numbers_in : (low : ℕ) (high : Option ℕ) (numbers : Option (List ℕ))
    → low ≤ version_number (unwrap_or numbers (replicate 4 0))
    → ((next : ℕ) → high ≡ Some next
    → version_number (unwrap_or numbers (replicate 4 0)) < next)
    → numbers_fit numbers (is_some numbers) low high ≡ true
numbers_in low high None from to = eq-eqb low 0 (omega arith)
numbers_in low high (Some v) from to = is_in_cell low (version_number v) high from to

kept_by : (t : List ℕ) (b : Bool) (c : ℕ) (cs : List ℕ) → (if b then t else []) ≡ c ∷ cs
    → t ≡ c ∷ cs
kept_by t true c cs is = is
kept_by t false c cs is = absurd cc

kept_is : (o : Option (List ℕ)) (c : ℕ) (cs : List ℕ) → kept_text o ≡ c ∷ cs → o ≡ Some (c ∷ cs)
kept_is None c cs is = absurd cc
kept_is (Some t) c cs is =
    ap (λ (u : List ℕ). Some u) (kept_by t (nat_le (length t) 1024) c cs is)

module _ (o : Option (List ℕ)) (low : ℕ) (high : Option ℕ)
    (from : low ≤ version_number (unwrap_or (option_and_then version_of o) (replicate 4 0)))
    (to : (next : ℕ) → high ≡ Some next
    → version_number (unwrap_or (option_and_then version_of o) (replicate 4 0)) < next) where
  abbrev numbers : Option (List ℕ)
  numbers = option_and_then version_of o

  its_text : (text : List ℕ) → kept_text o ≡ text
      → version_fits (Some text) (is_some numbers) low high ≡ true
  its_text [] is = from_zero low numbers from
  its_text (c ∷ cs) is =
      let same : numbers ≡ version_of (c ∷ cs) =
      ap (option_and_then version_of) (kept_is o c cs is) in
      ap (λ (n : Option (List ℕ)). numbers_fit n (is_some numbers) low high) (sym same)
      ∙ numbers_in low high numbers from to

  pub version_ok : (texts : List (List ℕ))
      → version_fits (slice_get texts (index_or_count texts (kept_text o))) (is_some numbers)
      low high
      ≡ true
  version_ok texts =
      named_or_not texts (kept_text o)
      (λ (t : Option (List ℕ)). version_fits t (is_some numbers) low high ≡ true)
      (its_text (kept_text o) refl) (λ past. from_zero low numbers from)

-- ---- buckets

module _ (texts : List (List ℕ)) (cohort : List ℕ) (bucket : ℕ)
    (named : (b : ℕ) → cohort_bucket cohort ≡ Some b → bucket ≡ b) where
  by_named : (o : Option ℕ) → ((b : ℕ) → o ≡ Some b → bucket ≡ b)
      → (if is_some o then is_some o && is_bucket o bucket else not (is_some o)) ≡ true
  by_named None is = refl
  by_named (Some b) is = eq-eqb b bucket (sym (is b refl))

  -- another cohort than those that are named names a bucket that none of these names
  names_other : length texts ≤ index_or_count texts cohort → (b : ℕ) → cohort_bucket cohort ≡ Some b
      → (t : List ℕ) (k : ℕ) → k < length texts → slice_index_or texts k [] ≡ t
      → (o : Option ℕ) → cohort_bucket t ≡ o → is_bucket o bucket ≡ true → ⊥
  names_other past b is t k within at None also holds = absurd cc
  names_other past b is t k within at (Some other) also holds =
      let equal : other ≡ bucket = eqb-true other bucket holds in
      let both : cohort_bucket t ≡ Some b =
      also ∙ ap (λ (n : ℕ). Some n) (equal ∙ named b is) in
      let same : t ≡ cohort = one_cohort t cohort b both is in
      let before : k < index_or_count texts cohort = omega arith in
      let fails = fails_before_first (λ (u : List ℕ). bytes_eq u cohort) texts k [] before in
      let holds = (bytes_eq-Decides t cohort).1 same in
      let moved = ap (λ (u : List ℕ). bytes_eq u cohort) at in
      let clash = sym fails ∙ moved ∙ holds in cc

  none_names : length texts ≤ index_or_count texts cohort → (b : ℕ) → cohort_bucket cohort ≡ Some b
      → list_any (names_bucket bucket) texts ≡ false
  none_names past b is =
      list_any_none (names_bucket bucket) texts
      (All-from_get_or (λ (t : List ℕ). names_bucket bucket t ≡ false) texts []
      (λ k within. false_from_ne_true (names_bucket bucket (get_or texts k []))
      (λ holds. names_other past b is (get_or texts k []) k within refl
      (cohort_bucket (get_or texts k [])) refl holds)))

  another : length texts ≤ index_or_count texts cohort → (o : Option ℕ) → cohort_bucket cohort ≡ o
      → cohort_fits texts None (is_some o) bucket ≡ true
  another past None is = refl
  another past (Some b) is = ap not (none_names past b is)

  pub cohort_ok : cohort_fits texts (slice_get texts (index_or_count texts cohort))
      (is_some (cohort_bucket cohort)) bucket ≡ true
  cohort_ok =
      named_or_not texts cohort
      (λ (t : Option (List ℕ)). cohort_fits texts t (is_some (cohort_bucket cohort)) bucket ≡ true)
      (by_named (cohort_bucket cohort) named)
      (λ past. another past (cohort_bucket cohort) refl)
