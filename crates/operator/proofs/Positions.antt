-- The first index of a list at which a test passes, if there is one.
use Rattle.std.proofs.Common.{◌≡◌, ℕ, ◌<◌, ◌≤◌, List, length, Bool, Some, None, arith}
use Rattle.std.proofs.lemmas.Bool.Decides.{nat_tests}
use Rattle.std.proofs.lemmas.List.Quantifiers.{position-Some}
use Rattle.std.proofs.lemmas.List.Sums.{position_or_len_is, prefix_len-le-length}
use Rattle.std.specs.Prelude.{cond, not, nat_lt}
use Rattle.std.specs.List.{position, position_or_len}

pub found : (p : ℕ → Bool) (xs : List ℕ) (i : ℕ) → position p xs ≡ Some i
    → (position_or_len p xs ≡ i) × (i < length xs)
found p xs i e =
    let at = position-Some p xs i 0 e in
    (position_or_len_is p xs i 0 (omega (arith, at.0)) at.2 (λ h. at.1), at.0)

at_end : (n size : ℕ) → n ≤ size → cond (nat_lt n size) (Some n) None ≡ None → n ≡ size
at_end n size h e = grind (arith, nat_tests, e)

pub not_found : (p : ℕ → Bool) (xs : List ℕ) → position p xs ≡ None
    → position_or_len p xs ≡ length xs
not_found p xs e =
    at_end (position_or_len p xs) (length xs) (prefix_len-le-length (λ c. not (p c)) xs) e
