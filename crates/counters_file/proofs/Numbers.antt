-- Numbers as they are printed: their values, and the bytes that they don't have.
use Rattle.std.proofs.Common.{◌≡◌, ◌≢◌, ℕ, ◌<◌, ◌≤◌, ◌^◌, Bool, true, false, ap, subst, ◌∙◌}
use Rattle.std.proofs.Common.{arith, rules, Option, Some, None, length, get_or}
use Rattle.std.specs.Prelude.{◌==◌, ◌&&◌, nat_lt, nat_le, All, option_and_then, if◌then◌else◌}
use Rattle.std.specs.Fmt.{decimal}
use Rattle.std.specs.Int.{IsInRange}
use Rattle.std.specs.Str.{all_ascii_digits}
use Rattle.std.specs.Str.Parse.{digits_value}
use Rattle.std.proofs.lemmas.Bool.{lt-ltb, le-leb}
use Rattle.std.proofs.lemmas.Bool.Decides.{nat_tests}
use Rattle.std.proofs.lemmas.Fmt.{decimal_is_IsNumeral, decimal_nonempty, digits_decimal}
use Rattle.std.proofs.lemmas.List.{get_or_default}
use Rattle.std.proofs.lemmas.Str.Parse.{IsNumeralModel, numerals_by_value, not_in_digits}
use Rattle.lexing.specs.Decimal.{long_number, is_long_number, within, decimal_within}

own : IsNumeralModel (λ ds. all_ascii_digits ds ≡ true) (digits_value 10)
own = numerals_by_value _ (search rules)

long : (n : ℕ) → n < 2 ^ 64 → long_number (decimal n) ≡ Some n
long n small =
    let digits : all_ascii_digits (decimal n) ≡ true = digits_decimal own n small in
    let some : nat_lt 0 (length (decimal n)) ≡ true =
    lt-ltb 0 (length (decimal n)) (decimal_nonempty n small) in
    let is : digits_value 10 (decimal n) ≡ n = (decimal_is_IsNumeral n small).1 in
    let fits : nat_lt (digits_value 10 (decimal n)) (2 ^ 64) ≡ true =
    ap (λ (k : ℕ). nat_lt k (2 ^ 64)) is ∙ lt-ltb n (2 ^ 64) small in
    let test : is_long_number (decimal n) ≡ true =
    ap (λ (b : Bool). b && nat_lt 0 (length (decimal n))
    && nat_lt (digits_value 10 (decimal n)) (2 ^ 64)) digits
    ∙ ap (λ (b : Bool). true && b && nat_lt (digits_value 10 (decimal n)) (2 ^ 64)) some
    ∙ ap (λ (b : Bool). true && true && b) fits in
    ap (λ (b : Bool). if b then Some (digits_value 10 (decimal n)) else None) test
    ∙ ap (λ (k : ℕ). Some k) is

-- a number is read back
pub number_back : (from to n : ℕ) → from ≤ n → n ≤ to → n < 2 ^ 64
    → decimal_within from to (decimal n) ≡ Some n
number_back from to n low high small =
    ap (λ (o : Option ℕ). option_and_then (within from to) o) (long n small)
    ∙ ap (λ (b : Bool). if b && nat_le n to then Some n else None) (le-leb from n low)
    ∙ ap (λ (b : Bool). if true && b then Some n else None) (le-leb n to high)

pub is_other : (a b : ℕ) → a ≢ b → (a == b) ≡ false
is_other a b ne = grind (arith, nat_tests)

-- a byte that isn't a digit isn't in a number
pub digits_without : (n c : ℕ) → n < 2 ^ 64 → (IsInRange 48 57 c → ⊥)
    → All (λ (b : ℕ). (b == c) ≡ false) (decimal n)
digits_without n c small out k d lt =
    let ne : get_or (decimal n) k 0 ≢ c =
    not_in_digits own (decimal n) c (digits_decimal own n small) out k lt in
    subst (λ (b : ℕ). (b == c) ≡ false) (get_or_default (decimal n) k 0 d lt)
    (is_other (get_or (decimal n) k 0) c ne)

pub not_blank : IsInRange 48 57 32 → ⊥
not_blank h = omega (arith, h.0)

pub not_line_feed : IsInRange 48 57 10 → ⊥
not_line_feed h = omega (arith, h.0)
