-- Runs of bytes of one class.
use Rattle.std.proofs.Common.{◌≡◌, ℕ, suc, zero, ◌+◌, ◌<◌, ◌≤◌, List, [], ◌∷◌, take, drop, Bool}
use Rattle.std.proofs.Common.{true, false, refl, arith}
use Rattle.std.proofs.lemmas.Str.{IsUtf8-from_ascii}
use Rattle.std.specs.List.{prefix_len}
use Rattle.std.specs.Str.{IsAscii, IsUtf8}
use Rattle.rule_lang.specs.declared.token.Class.{Class}
use Rattle.rule_lang.specs.declared.token.Class.TheVariants as class
use Rattle.rule_lang.specs.Tokens.{is_in, is_ascii, digits_in, part_len, with_part}

abbrev AreAscii : (ℕ → Bool) → Type 0
AreAscii p = (c : ℕ) → p c ≡ true → c < 128

run_first : (p : ℕ → Bool) (x : ℕ) (xs : List ℕ) (n : ℕ) (b : Bool) → p x ≡ b
    → suc n ≤ prefix_len p (x ∷ xs) → (p x ≡ true) × (n ≤ prefix_len p xs)
run_first p x xs n true is h = (is, grind (arith, is, h))
run_first p x xs n false is h = grind (arith, is, h)

-- a prefix of a run of ASCII is ASCII
ascii_run : (p : ℕ → Bool) → AreAscii p → (xs : List ℕ) (n : ℕ) → n ≤ prefix_len p xs
    → IsAscii (take n xs)
ascii_run p h xs zero le i = grind arith
ascii_run p h [] (suc n) le i = grind arith
ascii_run p h (x ∷ xs) (suc n) le zero = h x (run_first p x xs n (p x) refl le).0
ascii_run p h (x ∷ xs) (suc n) le (suc i) = ascii_run p h xs n (run_first p x xs n (p x) refl
    le).1 i

are_ascii : (k : Class) → is_ascii k ≡ true → AreAscii (is_in k)
are_ascii class.Name h c e = grind arith
are_ascii class.Digit h c e = grind arith
are_ascii class.Number h c e = grind arith
are_ascii class.Literal h c e = grind arith
are_ascii class.Line h c e = cc

pub run_is_utf8 : (k : Class) (xs : List ℕ) (n : ℕ) → is_ascii k ≡ true
    → n ≤ prefix_len (is_in k) xs → IsUtf8 (take n xs)
run_is_utf8 k xs n h le = IsUtf8-from_ascii (take n xs) (ascii_run (is_in k) (are_ascii k h) xs n
    le)

-- a run, after its first bytes
pub run_behind : (p : ℕ → Bool) (xs : List ℕ) (n : ℕ) → n ≤ prefix_len p xs
    → prefix_len p xs ≡ n + prefix_len p (drop n xs)
run_behind p xs zero le = omega arith
run_behind p [] (suc n) le = grind arith
run_behind p (x ∷ xs) (suc n) le =
    let first = run_first p x xs n (p x) refl le in
    let is : p x ≡ true = first.0 in
    let rest = run_behind p xs n first.1 in
    grind (arith, is, rest)

pub digits_run : (xs : List ℕ) → digits_in xs ≤ prefix_len (is_in class.Number) xs
digits_run [] = omega arith
digits_run (x ∷ xs) = let rest = digits_run xs in grind (arith, rest)

pub part_run : (s : List ℕ) → part_len s ≤ prefix_len (is_in class.Number) s
part_run [] = omega arith
part_run (c ∷ rest) = let more = digits_run rest in grind (arith, more)

pub with_part_run : (s : List ℕ) (n : ℕ) → n ≤ prefix_len (is_in class.Number) s
    → with_part s n ≤ prefix_len (is_in class.Number) s
with_part_run s n h =
    let split = run_behind (is_in class.Number) s n h in
    let part = part_run (drop n s) in
    omega (arith, split, part)
