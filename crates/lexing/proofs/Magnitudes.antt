-- Numbers, digit by digit.
use Rattle.std.proofs.Common.{◌≡◌, ℕ, ◌+◌, ◌*◌, ◌<◌, ◌≤◌, ◌^◌, List, length, take, get_or}
use Rattle.std.proofs.Common.{Some, None, sym, ap, ◌∙◌, arith}
use Rattle.std.proofs.lemmas.Str.Parse.{digits_value-take-le}
use Rattle.std.proofs.lemmas.Int.Digits.{digits_value_more}
use Rattle.std.proofs.lemmas.List.{take_all}
use Rattle.std.specs.Char.{digit_value}
use Rattle.std.specs.Str.Parse.{digits_value}
use Rattle.lexing.specs.Digits.{number_if_small, magnitude}

small_number : (n : ℕ) → n < 2 ^ 64 → number_if_small n ≡ Some n
small_number n h = grind arith

large_number : (n : ℕ) → number_if_small n ≡ None → 2 ^ 64 ≤ n
large_number n h = grind arith

no_number : (n : ℕ) → 2 ^ 64 ≤ n → number_if_small n ≡ None
no_number n h = grind arith

some_number : (n m : ℕ) → number_if_small n ≡ Some m → m ≡ n
some_number n m h = grind arith

pub too_large : (radix : ℕ) (ds : List ℕ) (i n d : ℕ) → 1 ≤ radix → i < length ds
    → n ≡ digits_value radix (take i ds) → d ≡ digit_value (get_or ds i 0)
    → number_if_small (n * radix + d) ≡ None → magnitude radix ds ≡ None
too_large radix ds i n d base inside so_far digit none =
    let more : digits_value radix (take (i + 1) ds) ≡ n * radix + d =
    digits_value_more radix ds i inside ∙ rw (← so_far, ← digit) in
    let whole : digits_value radix (take (i + 1) ds) ≤ digits_value radix ds =
    digits_value-take-le radix ds (i + 1) base in
    let over : 2 ^ 64 ≤ n * radix + d = large_number (n * radix + d) none in
    no_number (digits_value radix ds) (omega (arith, more, whole, over))

pub digit_more : (radix : ℕ) (ds : List ℕ) (i n d m : ℕ)
    → i < length ds → n ≡ digits_value radix (take i ds) → d ≡ digit_value (get_or ds i 0)
    → number_if_small (n * radix + d) ≡ Some m → m ≡ digits_value radix (take (i + 1) ds)
digit_more radix ds i n d m inside so_far digit some =
    some_number (n * radix + d) m some
    ∙ sym (digits_value_more radix ds i inside ∙ rw (← so_far, ← digit))

pub all_digits : (radix : ℕ) (ds : List ℕ) (i n : ℕ) → length ds ≤ i
    → n ≡ digits_value radix (take i ds) → n < 2 ^ 64 → Some n ≡ magnitude radix ds
all_digits radix ds i n past so_far small =
    let e : n ≡ digits_value radix ds = so_far ∙ ap (digits_value radix) (take_all i ds past) in
    sym (ap number_if_small (sym e) ∙ small_number n small)
