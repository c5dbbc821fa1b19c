-- A cohort in a reply is ASCII, and so a text.
use Rattle.std.proofs.Common.{ℕ, zero, suc, ◌/◌, ◌<◌, List, [], ◌∷◌, arith}
use Rattle.std.specs.Str.{IsAscii, IsUtf8}
use Rattle.std.proofs.lemmas.Str.{IsUtf8-from_ascii}
use Rattle.std.proofs.lemmas.Str.Ascii.{IsAscii-nil}
use Rattle.attrs.specs.Bucket.{last_digit, four_digits, cohort_of_bucket}

ascii_cons : (x : ℕ) (xs : List ℕ) → x < 128 → IsAscii xs → IsAscii (x ∷ xs)
ascii_cons x xs small rest zero = small
ascii_cons x xs small rest (suc i) = rest i

small_digit : (n : ℕ) → last_digit n < 128
small_digit n = grind arith

digits_are_ascii : (n : ℕ) → IsAscii (four_digits n)
digits_are_ascii n =
    let d = last_digit n in
    let c = last_digit (n / 10) in
    let b = last_digit (n / 100) in
    let a = last_digit (n / 1000) in
    ascii_cons a (b ∷ c ∷ d ∷ []) (small_digit (n / 1000))
    (ascii_cons b (c ∷ d ∷ []) (small_digit (n / 100))
    (ascii_cons c (d ∷ []) (small_digit (n / 10))
    (ascii_cons d [] (small_digit n) IsAscii-nil)))

pub cohort_is_ascii : (bucket : ℕ) → IsAscii (cohort_of_bucket bucket)
cohort_is_ascii n =
    let letter : 98 < 128 = omega arith in
    let colon : 58 < 128 = omega arith in
    ascii_cons 98 (58 ∷ four_digits n) letter
    (ascii_cons 58 (four_digits n) colon (digits_are_ascii n))

pub is_text : (bytes : List ℕ) → IsAscii bytes → ¬ ¬ IsUtf8 bytes
is_text bytes ascii none = none (IsUtf8-from_ascii bytes ascii)
