-- A cohort that names a bucket is the only one that names it.
use Rattle.std.proofs.Common.{◌≡◌, ℕ, ◌+◌, ◌-◌, ◌*◌, ◌<◌, ◌≤◌, List, [], ◌∷◌, ◌++◌, length, drop}
use Rattle.std.proofs.Common.{Option, Some, None, Bool, true, false, ◌&&◌, cond, refl, sym, ap, ap₂}
use Rattle.std.proofs.Common.{◌∙◌, arith, codes, length-drop, eqb-true, ne_eqb, leb-false}
use Rattle.std.specs.Prelude.{nat_eq, nat_le, nat_lt, ◌==◌, option_and_then, if◌then◌else◌}
use Rattle.std.specs.Char.{digit_value}
use Rattle.std.specs.List.{starts_with}
use Rattle.std.specs.Str.{all_ascii_digits}
use Rattle.std.specs.Str.Parse.{digits_value, digits_value_after}
use Rattle.std.proofs.lemmas.Bool.{and_parts, and_right, cond-false}
use Rattle.std.proofs.lemmas.Bool.Decides.{Decides-eqb, nat_tests}
use Rattle.std.proofs.lemmas.Option.{cond_some}
use Rattle.std.proofs.lemmas.Slice.Eq.{starts_is}
use Rattle.std.proofs.lemmas.Str.Parse.{tells_all_ascii_digits}
use Rattle.attrs.specs.Attributes.{kept_text}
use Rattle.attrs.specs.Bucket.{cohort_bucket, is_bucket_cohort}
use Rattle.attrs.specs.Version.{decimal_number, is_decimal_number}

digit_is : (c : ℕ) → 48 ≤ c → c ≤ 57 → digit_value c ≡ c - 48
digit_is c low high = grind (arith, nat_tests)

digits_apart : (xs ys : List ℕ) (m n : ℕ) → length xs ≡ length ys → all_ascii_digits xs ≡ true
    → all_ascii_digits ys ≡ true → digits_value_after 10 m xs ≡ digits_value_after 10 n ys
    → (m ≡ n) × (xs ≡ ys)
digits_apart [] [] m n long all every same = (same, refl)
digits_apart [] (y ∷ ys) m n long all every same = absurd (omega arith)
digits_apart (x ∷ xs) [] m n long all every same = absurd (omega arith)
digits_apart (x ∷ xs) (y ∷ ys) m n long all every same =
    let p = tells_all_ascii_digits.parts x xs all in
    let q = tells_all_ascii_digits.parts y ys every in
    let rest = digits_apart xs ys (m * 10 + digit_value x) (n * 10 + digit_value y) (omega arith)
    p.1 q.1 same in
    let dx = digit_is x p.0.0 p.0.1 in
    let dy = digit_is y q.0.0 q.0.1 in
    let from_x = p.0.0 in
    let to_x = p.0.1 in
    let from_y = q.0.0 in
    let to_y = q.0.1 in
    let sums = rest.0 in
    let first : m ≡ n = omega arith in
    let digit : x ≡ y = omega arith in
    (first, ap₂ (λ (c : ℕ) (cs : List ℕ). c ∷ cs) digit rest.1)

chosen : (t : Bool) (o : Option ℕ) (b : ℕ) → cond t o None ≡ Some b → (t ≡ true) × (o ≡ Some b)
chosen true o b is = (refl, is)
chosen false o b is = absurd cc

record Names (s : List ℕ) (b : ℕ) : Type 0 where
  text : s ≡ codes "b:" ++ drop 2 s
  four : length (drop 2 s) ≡ 4
  digits : all_ascii_digits (drop 2 s) ≡ true
  value : digits_value 10 (drop 2 s) ≡ b

names : (s : List ℕ) (b : ℕ) → cohort_bucket s ≡ Some b → Names s b
names s b is =
    let c = chosen (is_bucket_cohort s) (decimal_number (drop 2 s)) b is in
    let form = and_parts (starts_with nat_eq s (codes "b:")) (length s == 6) c.0 in
    let six : length s ≡ 6 = eqb-true (length s) 6 form.1 in
    let d = cond_some (is_decimal_number (drop 2 s)) (digits_value 10 (drop 2 s)) b c.1 in
    let parts = and_parts (all_ascii_digits (drop 2 s) && nat_lt 0 (length (drop 2 s)))
    (nat_lt (digits_value 10 (drop 2 s)) 4294967296) d.0 in
    record {
      text =
          (starts_is Decides-eqb s (codes "b:") (starts_with nat_eq s (codes "b:")) refl).0 form.0;
      four = length-drop 2 s ∙ ap (λ (n : ℕ). n - 2) six;
      digits =
          (and_parts (all_ascii_digits (drop 2 s)) (nat_lt 0 (length (drop 2 s))) parts.0).0;
      value = d.1;
    }

pub one_cohort : (s t : List ℕ) (b : ℕ) → cohort_bucket s ≡ Some b → cohort_bucket t ≡ Some b
    → s ≡ t
one_cohort s t b is also =
    let n = names s b is in
    let m = names t b also in
    n.text
    ∙ ap (λ (d : List ℕ). codes "b:" ++ d)
    (digits_apart (drop 2 s) (drop 2 t) 0 0 (n.four ∙ sym m.four) n.digits m.digits
    (n.value ∙ sym m.value)).1
    ∙ sym m.text

-- ---- a cohort as it is kept names the same bucket

too_long : (t : List ℕ) → nat_le (length t) 1024 ≡ false → cohort_bucket t ≡ None
too_long t long =
    let more : 1024 < length t = leb-false (length t) 1024 long in
    cond-false (is_bucket_cohort t) (decimal_number (drop 2 t)) None
    (and_right (starts_with nat_eq t (codes "b:")) (length t == 6)
    (ne_eqb (length t) 6 (λ six. omega arith)))

kept_by : (t : List ℕ) (b : Bool) → nat_le (length t) 1024 ≡ b
    → cohort_bucket (if b then t else []) ≡ cohort_bucket t
kept_by t true is = refl
kept_by t false is = sym (too_long t is)

pub kept_names : (o : Option (List ℕ))
    → cohort_bucket (kept_text o) ≡ option_and_then cohort_bucket o
kept_names None = refl
kept_names (Some t) = kept_by t (nat_le (length t) 1024) refl
