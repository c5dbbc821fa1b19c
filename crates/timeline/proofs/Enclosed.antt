-- All rows of a series are between its two names.
use Rattle.std.proofs.Common.{◌≡◌, ◌≢◌, ◌∙◌, refl, sym, ap, ap₂, subst, ℕ, zero, suc, ◌<◌}
use Rattle.std.proofs.Common.{◌+◌, arith}
use Rattle.std.proofs.Common.{List, [], ◌∷◌, ◌++◌, append_assoc, length, get_or, Bool, true, false}
use Rattle.std.proofs.Common.{Option, Some, None, string_bytes, codes, not, ◌&&◌, drop}
use Rattle.std.specs.Prelude.{is_some, option_and_then, if◌then◌else◌}
use Rattle.std.specs.List.{position_or_len}
use Rattle.std.specs.Cmp.{nat_cmp_is}
use Rattle.std.specs.Cmp.Lexicographic.{slice_cmp}
use Rattle.std.specs.Ordering.{nat_cmp, is_gt, is_le, ordering_then}
use Rattle.std.specs.declared.cmp.Ordering.TheVariants.{Equal}
use Rattle.std.specs.Str.{bytes_eq}
use Rattle.std.proofs.lemmas.Slice.Eq.{bytes_eq-Decides}
use Rattle.std.proofs.lemmas.List.Sums.{passes_at_first, split_at_first}
use Rattle.report.specs.Exposition.{first, is_tab, rest}
use Rattle.timeline.specs.Marks.{Drawn, moment_in, moment_of, rest_after, rest_after_any}
use Rattle.timeline.specs.SeriesRows.{Encloses, texts_of, with_version}
use Rattle.timeline.specs.declared.series_rows.SeriesNames.{SeriesNames}

-- ---- the order of texts with the same prefix

equal : (b : ℕ) → nat_cmp b b ≡ Equal
equal b = sym (nat_cmp_is b b Equal refl)

same_prefix : (texts one other : List ℕ)
    → slice_cmp nat_cmp (texts ++ one) (texts ++ other) ≡ slice_cmp nat_cmp one other
same_prefix [] one other = refl
same_prefix (b ∷ texts) one other =
    ap (λ o. ordering_then o (slice_cmp nat_cmp (texts ++ one) (texts ++ other))) (equal b)
    ∙ same_prefix texts one other

from_tab : (more : List ℕ) → is_le (slice_cmp nat_cmp (codes "\t") (9 ∷ more)) ≡ true
from_tab [] = refl
from_tab (b ∷ more) = refl

-- ---- a name by its texts

longer : (n : ℕ) (name : List ℕ) → drop (suc n) name ≢ [] → n < length name
longer n [] some = absurd (some refl)
longer zero (b ∷ name) some = omega arith
longer (suc n) (b ∷ name) some = omega (arith, longer n name some)

tab_is : (b : ℕ) → is_tab b ≡ true → b ≡ 9
tab_is b holds = grind arith

-- if anything is after the first tab, a name is its first text, a tab, and the rest
parts : (name : List ℕ) → rest name ≢ [] → name ≡ first name ++ 9 ∷ rest name
parts name some =
    let next : position_or_len is_tab name + 1 ≡ suc (position_or_len is_tab name) =
    omega arith in
    let at : position_or_len is_tab name < length name =
    longer (position_or_len is_tab name) name
    (subst (λ (n : ℕ). drop n name ≢ []) next some) in
    split_at_first is_tab name 0 at ∙ ap (λ (b : ℕ). first name ++ b ∷ rest name)
    (tab_is (get_or name (position_or_len is_tab name) 0) (passes_at_first is_tab name 0 at))

not_empty : (name : List ℕ) → rest name ≢ [] → name ≢ []
not_empty name some none = some (ap rest none)

with_moment : (text : List ℕ) → is_some (moment_in text) ≡ true → text ≢ []
with_moment text some none = no_moment (sym (ap (λ t. is_some (moment_in t)) none) ∙ some)
  where
    no_moment : is_some (moment_in []) ≢ true
    no_moment same = cc

-- a name that has a text first, and more after it
record Begins (text name : List ℕ) (further : List ℕ → Option ℕ) : Type 0 where
  is : first name ≡ text
  more : is_some (further (rest name)) ≡ true

begins : (text name : List ℕ) (further : List ℕ → Option ℕ)
    → is_some (option_and_then further (rest_after text name)) ≡ true → Begins text name further
begins text name further some =
    by (bytes_eq (first name) text) (bytes_eq-Decides (first name) text).0 some
  where
    by : (b : Bool) → (b ≡ true → first name ≡ text)
        → is_some (option_and_then further (if b then Some (rest name) else None)) ≡ true
        → Begins text name further
    by true same found = record { is = same refl; more = found }
    by false same found = absurd (none found)
      where
        none : false ≢ true
        none same = cc

record BeginsWith (texts name : List ℕ) : Type 0 where
  more : List ℕ
  is : name ≡ texts ++ 9 ∷ more

-- what is after an app's name in a name of a series
after_app : (version : Option (List ℕ)) (texts name : List ℕ)
    → is_some (option_and_then moment_in (rest_after_any version name)) ≡ true
    → (rest name ≢ []) × BeginsWith (texts ++ with_version version) (texts ++ 9 ∷ name)
after_app None texts name some = (
  with_moment (rest name) some,
  record {
    more = name;
    is = ap (λ (t : List ℕ). t ++ 9 ∷ name) (sym (append_nil texts));
  },
)
  where
    append_nil : (xs : List ℕ) → xs ++ [] ≡ xs
    append_nil [] = refl
    append_nil (x ∷ xs) = ap (λ (l : List ℕ). x ∷ l) (append_nil xs)
after_app (Some version) texts name some =
    let b = begins version name moment_in some in
    let going_on = with_moment (rest name) b.more in (
      going_on,
      record {
        more = rest name;
        is = ap (λ (n : List ℕ). texts ++ 9 ∷ n) (parts name going_on
            ∙ ap (λ (t : List ℕ). t ++ 9 ∷ rest name) b.is)
            ∙ sym (append_assoc texts (9 ∷ version) (9 ∷ rest name));
      },
    )

begins_so : (drawn : Drawn) (name : List ℕ) → is_some (moment_of drawn name) ≡ true
    → BeginsWith (texts_of drawn) name
begins_so drawn name some =
    let after : List ℕ → Option ℕ =
    λ (b : List ℕ). option_and_then moment_in (rest_after_any drawn.version b) in
    let what = begins drawn.what name
    (λ (a : List ℕ). option_and_then after (rest_after drawn.app a)) some in
    let app = begins drawn.app (rest name) after what.more in
    let beginning : List ℕ = drawn.what ++ codes "\t" ++ drawn.app in
    let behind : List ℕ = 9 ∷ rest (rest name) in
    let last = after_app drawn.version beginning (rest (rest name)) app.more in
    let second = not_empty (rest (rest name)) last.0 in
    let tail : rest name ≡ drawn.app ++ behind =
    parts (rest name) second ∙ ap (λ (t : List ℕ). t ++ behind) app.is in
    record {
      more = last.1.more;
      is = parts name (not_empty (rest name) second)
          ∙ ap₂ (λ (t r : List ℕ). t ++ 9 ∷ r) what.is tail
          ∙ sym (append_assoc drawn.what (codes "\t") (drawn.app ++ behind))
          ∙ sym (append_assoc (drawn.what ++ codes "\t") drawn.app behind) ∙ last.1.is;
    }

-- ---- the two names

between : (texts more first end name : List ℕ) → first ≡ texts ++ codes "\t"
    → end ≡ texts ++ codes "\n" → name ≡ texts ++ 9 ∷ more
    → is_le (slice_cmp nat_cmp first name) && not (is_le (slice_cmp nat_cmp end name)) ≡ true
between texts more first end name first_is end_is name_is =
    ap₂ (λ (a b : Bool). a && not b)
    (ap₂ (λ (f n : List ℕ). is_le (slice_cmp nat_cmp f n)) first_is name_is
    ∙ ap is_le (same_prefix texts (codes "\t") (9 ∷ more)) ∙ from_tab more)
    (ap₂ (λ (e n : List ℕ). is_le (slice_cmp nat_cmp e n)) end_is name_is
    ∙ ap is_le (same_prefix texts (codes "\n") (9 ∷ more)))

pub encloses : (drawn : Drawn) (names : SeriesNames)
    → string_bytes names.first ≡ texts_of drawn ++ codes "\t"
    → string_bytes names.end ≡ texts_of drawn ++ codes "\n" → Encloses drawn names
encloses drawn names first_is end_is = record {
  forward = ap₂ (λ (f e : List ℕ). is_gt (slice_cmp nat_cmp f e)) first_is end_is
      ∙ ap is_gt (same_prefix (texts_of drawn) (codes "\t") (codes "\n"));
  all = λ name some. let b = begins_so drawn (string_bytes name) some in
      between (texts_of drawn) b.more (string_bytes names.first) (string_bytes names.end)
      (string_bytes name) first_is end_is b.is;
}
