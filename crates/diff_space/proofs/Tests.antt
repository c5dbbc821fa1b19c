-- A test holds as the number of its dimension compares.
use Rattle.std.proofs.Common.{◌≡◌, ℕ, ℤ, ◌<◌, ◌≤◌, ◌^◌, List, [], All, length, Option, Some, None}
use Rattle.std.proofs.Common.{Bool, true, false, not, inl, inr, refl, sym, ap, ap₂, subst, ◌∙◌}
use Rattle.std.proofs.Common.{arith, Less, Equal, Greater, ltb-true, le-leb, slice_get, is_some}
use Rattle.std.proofs.Common.{unwrap_or}
use Rattle.std.specs.Prelude.{slice_index_or, bit_and, nat_lt, ◌==◌, if◌then◌else◌}
use Rattle.std.specs.Cmp.{nat_cmp_is}
use Rattle.std.specs.Ordering.{nat_cmp}
use Rattle.std.specs.Str.{bytes_eq}
use Rattle.std.proofs.lemmas.Bool.{cases_Bool, cases_order}
use Rattle.std.proofs.lemmas.List.Sums.{passes_at_first}
use Rattle.std.proofs.lemmas.Option.{get_or_from_slice_get, slice_get_within}
use Rattle.std.proofs.lemmas.Slice.Eq.{bytes_eq-Decides}
use Rattle.attrs.specs.Attributes.{Attributes, kept_text}
use Rattle.attrs.specs.Facts.{attributes_of, known_day}
use Rattle.attrs.specs.Helpers.{attr_is}
use Rattle.attrs.specs.Vocabulary.{attribute_number, flag_bit}
use Rattle.attrs.specs.declared.facts.AppFacts.{AppFacts}
use Rattle.attrs.specs.declared.facts.RequestFacts.{RequestFacts}
use Rattle.attrs.specs.declared.vocabulary.Attribute.{Attribute}
use Rattle.attrs.specs.declared.vocabulary.Attribute.TheVariants as attribute
use Rattle.attrs.specs.declared.vocabulary.Flag.{Flag}
use Rattle.attrs.specs.declared.vocabulary.Flag.TheVariants as flag
use Rattle.cells.specs.Arrays.{AppShape}
use Rattle.rule_lang.specs.Meaning.{allows, bucket_by, remainder}
use Rattle.rule_lang.specs.declared.test.Comparison.{Comparison}
use Rattle.rule_lang.specs.declared.test.Comparison.TheVariants.{Lt, Eq, Ge}
use Rattle.rule_lang.specs.declared.test.Test as the_test
use Rattle.rule_lang.specs.declared.test.Test.TheVariants as test
use Rattle.diff_space.specs.declared.coordinate.Coordinate.TheVariants as coordinate
use Rattle.diff_space.specs.declared.test_line.NumberComparison.{NumberComparison}
use Rattle.diff_space.specs.Coordinates.{Dimension, number_of, index_or_count}
use Rattle.diff_space.specs.Lines.{IsLine}
use Rattle.diff_space.specs.Machines.{State}
use Rattle.diff_space.specs.Numbers.{version_number}
use Rattle.diff_space.specs.Plans.{ComparesAs, IsConstant}
use Rattle.diff_space.specs.Scopes.{IsWithin, Scope}
use Rattle.diff_space.specs.Tests.{ComparesNumber, ComparesNumberAt}
use Rattle.diff_space.proofs.Cells.{begins_alike}
use Rattle.diff_space.proofs.Flags.{has_flags, is_set}
use Rattle.diff_space.proofs.Ranges.{from_first, to_last}
use Rattle.diff_space.proofs.Versions.{numbers_order}

-- an element of a list has what all have
pub all_at : {X : Type 0} (P : X → Type 0) (xs : List X) (k : ℕ) (x : X) → slice_get xs k ≡ Some x
    → All P xs → P x
all_at P xs k x is all =
    subst P (get_or_from_slice_get xs k x x is) (all k x (slice_get_within xs k x is))

abbrev pub by : Comparison → ℕ → NumberComparison
by r n = record { comparison = r; number = n }

pub version_comparison : (texts : List (List ℕ)) (r : Comparison) (w : List ℕ) (n : ℕ)
    → All (λ k. k < 2 ^ 32) w → n ≡ version_number w
    → ComparesNumber coordinate.Version texts (test.Version r w) (by r n)
version_comparison texts r w n all is = record {
  no_cell = λ s. refl;
  holds = λ s x a g within.
      ap (allows r) (sym (numbers_order a.context.version w within.machine.ranges.version all)
      ∙ ap (nat_cmp (version_number a.context.version)) (sym is));
}

pub today_comparison : (texts : List (List ℕ)) (r : Comparison) (n : ℕ)
    → ComparesNumber coordinate.Today texts (test.Today r n) (by r n)
today_comparison texts r n = record { no_cell = λ s. refl; holds = λ s x a g within. refl }

pub installed_comparison : (texts : List (List ℕ)) (r : Comparison) (n : ℕ)
    → ComparesNumber coordinate.Installed texts (test.Installed r n) (by r n)
installed_comparison texts r n = record { no_cell = λ s. refl; holds = λ s x a g within. refl }

pub bucket_comparison : (texts : List (List ℕ)) (salt modulus other divisor : Option ℕ)
    (r : Comparison) (n : ℕ) → salt ≡ other → modulus ≡ divisor
    → ComparesNumber (coordinate.Bucket salt modulus) texts (test.Bucket other divisor r n) (by r n)
bucket_comparison texts salt modulus other divisor r n salts moduli = record {
  no_cell = λ s. refl;
  holds = λ s x a g within.
      ap₂ (λ (m b : Option ℕ). allows r (nat_cmp (remainder m (bucket_by a b)) n)) (sym moduli)
      (sym salts);
}

-- ---- flags

flag_compares : (b : Bool) → not b ≡ allows Ge (nat_cmp (if b then 0 else 1) 1)
flag_compares true = refl
flag_compares false = refl

pub flag_comparison : (texts : List (List ℕ)) (own f : Flag) → own ≡ f
    → ComparesNumber (coordinate.Flag own) texts (test.Flag f) (by Ge 1)
flag_comparison texts own f same = record {
  no_cell = λ s. refl;
  holds = λ s x a g within.
      ap (λ (h : Flag). is_set a.context.flags (flag_bit h)) (sym same)
      ∙ flag_compares (bit_and a.context.flags (flag_bit own) == 0);
}

-- the day of an installation is known if it is below the unknown one
day_compares : (o : Option ℕ)
    → is_some (known_day o) ≡ allows Lt (nat_cmp (unwrap_or (known_day o) 4294967295) 4294967295)
day_compares None = refl
day_compares (Some day) = by_test (nat_lt day 4294967295) refl
  where
    by_test : (b : Bool) → nat_lt day 4294967295 ≡ b
        → is_some (if b then Some day else None)
        ≡ allows Lt (nat_cmp (unwrap_or (if b then Some day else None) 4294967295) 4294967295)
    by_test true is = ap (allows Lt) (nat_cmp_is day 4294967295 Less (ltb-true day 4294967295 is))
    by_test false is = refl

pub known_comparison : (texts : List (List ℕ))
    → ComparesNumber coordinate.Installed texts (test.Flag flag.InstalldateKnown) (by Lt 4294967295)
known_comparison texts = record {
  no_cell = λ s. refl;
  holds = λ s x a g within.
      let m = within.machine in
      (has_flags m.app m.request m.moment a m.is_made).installdate
      ∙ day_compares m.app.installdate
      ∙ sym (ap (λ (b : Attributes). allows Lt (nat_cmp b.context.install_day 4294967295))
      m.is_made);
}

-- ---- texts

-- a machine has each text
text_there : (app : AppFacts) (request : RequestFacts) (moment : ℤ) (n : Attribute) (text : List ℕ)
    → let a = attributes_of app request moment in
    (attr_is a (attribute_number n) text == 1)
    ≡ bytes_eq (slice_index_or a.texts (attribute_number n) []) text
text_there app request moment n text = at n
  where
    is_one : (b : Bool) → ((if b then 1 else 0) == 1) ≡ b
    is_one true = refl
    is_one false = refl

    at : (n : Attribute) → let a = attributes_of app request moment in
        (attr_is a (attribute_number n) text == 1)
        ≡ bytes_eq (slice_index_or a.texts (attribute_number n) []) text
    at attribute.Appid = is_one _
    at n = is_one _

pub has_text : (x : Scope) (a : Attributes) (g : State) → IsWithin x a g → (n : Attribute)
    (text : List ℕ) → (attr_is a (attribute_number n) text == 1)
    ≡ bytes_eq (slice_index_or a.texts (attribute_number n) []) text
has_text x a g within n text =
    let m = within.machine in
    subst (λ (b : Attributes). (attr_is b (attribute_number n) text == 1)
    ≡ bytes_eq (slice_index_or b.texts (attribute_number n) []) text) (sym m.is_made)
    (text_there m.app m.request m.moment n text)

equal_compares : (m n : ℕ) → m ≡ n → true ≡ allows Eq (nat_cmp m n)
equal_compares m n same = ap (allows Eq) (nat_cmp_is m n Equal same)

others_compare : (m n : ℕ) → (m ≡ n → ⊥) → false ≡ allows Eq (nat_cmp m n)
others_compare m n other = elim (cases_order m n) [
  | inl same ↦ absurd (other same)
  | inr (inl less) ↦ ap (allows Eq) (nat_cmp_is m n Less less)
  | inr (inr more) ↦ ap (allows Eq) (nat_cmp_is m n Greater more)
]

pub found_at : (texts : List (List ℕ)) (text d : List ℕ) → index_or_count texts text < length texts
    → slice_index_or texts (index_or_count texts text) d ≡ text
found_at texts text d there =
    (bytes_eq-Decides (slice_index_or texts (index_or_count texts text) d) text).0
    (passes_at_first (λ (t : List ℕ). bytes_eq t text) texts d there)

module _ (texts : List (List ℕ)) (text : List ℕ)
    (there : index_or_count texts text < length texts) where
  -- another text has another place
  apart : (u : List ℕ) → index_or_count texts u ≡ index_or_count texts text → u ≡ text
  apart u same =
      let within : index_or_count texts u < length texts = omega arith in
      sym (found_at texts u [] within) ∙ ap (λ (k : ℕ). slice_index_or texts k []) same
      ∙ found_at texts text [] there

  place_compares : (u : List ℕ)
      → bytes_eq u text ≡ allows Eq (nat_cmp (index_or_count texts u) (index_or_count texts text))
  place_compares u = elim (cases_Bool (bytes_eq u text)) [
    | inl same ↦
        same ∙ equal_compares (index_or_count texts u) (index_or_count texts text)
        (ap (index_or_count texts) ((bytes_eq-Decides u text).0 same))
    | inr other ↦
        other ∙ others_compare (index_or_count texts u) (index_or_count texts text)
        (λ equal. let both = sym other ∙ (bytes_eq-Decides u text).1 (apart u equal) in cc)
  ]

pub text_comparison : (texts : List (List ℕ)) (own n : Attribute) (text : List ℕ) (k : ℕ) → own ≡ n
    → k ≡ index_or_count texts text → k < length texts
    → ComparesNumber (coordinate.Text own) texts (test.Attr n text) (by Eq k)
text_comparison texts own n text k same is there = record {
  no_cell = λ s. refl;
  holds = λ s x a g within.
      let named : index_or_count texts text < length texts =
      subst (λ (p : ℕ). p < length texts) is there in
      let own_text = slice_index_or a.texts (attribute_number own) [] in
      ap (λ (m : Attribute). attr_is a (attribute_number m) text == 1) (sym same)
      ∙ has_text x a g within own text
      ∙ place_compares texts text named own_text
      ∙ ap (λ (p : ℕ). allows Eq (nat_cmp (index_or_count texts own_text) p)) (sym is);
}

-- ---- the begin of a cell compares as the number

pub compares : (x : Scope) (ds : List Dimension) (s : AppShape) (at : ℕ) (t : the_test.Test)
    (compared : NumberComparison) → All (IsLine x) ds → ComparesNumberAt ds at t compared
    → ComparesAs (IsWithin x) ds s t at compared.comparison compared.number
compares x ds s at t compared lines h = record {
  dimension = h.dimension;
  is_at = h.is_at;
  no_cell = h.compared.no_cell s;
  holds = λ a g within.
      let line = all_at (IsLine x) ds at h.dimension h.is_at lines in
      h.compared.holds s x a g within
      ∙ sym (begins_alike h.dimension.starts h.dimension.last (number_of h.dimension a g)
      compared.number compared.comparison line.rises (from_first x a g within h.dimension line)
      (to_last x a g within h.dimension line) h.decided);
}

-- ---- constants

pub is_requested : (x : Scope) (ds : List Dimension) (s : AppShape)
    → IsConstant (IsWithin x) ds s (test.Flag flag.Updatecheck) true
is_requested x ds s = record {
  no_cell = refl;
  holds = λ a g within.
      let m = within.machine in
      (has_flags m.app m.request m.moment a m.is_made).updatecheck ∙ m.requests;
}

kept_short : (text : List ℕ) → length text ≤ 1024 → kept_text (Some text) ≡ text
kept_short text short = ap (λ (b : Bool). if b then text else []) (le-leb (length text) 1024 short)

pub is_appid : (x : Scope) (ds : List Dimension) (s : AppShape) (text : List ℕ)
    → length x.appid ≤ 1024
    → IsConstant (IsWithin x) ds s (test.Attr attribute.Appid text) (bytes_eq x.appid text)
is_appid x ds s text short = record {
  no_cell = refl;
  holds = λ a g within.
      let m = within.machine in
      has_text x a g within attribute.Appid text
      ∙ ap (λ (b : Attributes). bytes_eq (slice_index_or b.texts 0 []) text) m.is_made
      ∙ ap (λ (t : List ℕ). bytes_eq (kept_text (Some t)) text) m.is_app
      ∙ ap (λ (t : List ℕ). bytes_eq t text) (kept_short x.appid short);
}
