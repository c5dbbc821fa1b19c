-- Numbers whose bits are among those of another.
use Rattle.std.proofs.Common.{◌≡◌, ℕ, ◌+◌, ◌-◌, ◌*◌, ◌/◌, ◌%◌, ◌^◌}
use Rattle.std.proofs.Common.{◌<◌, ◌≤◌, sym, ap, ◌∙◌, arith, inl, inr}
use Rattle.std.specs.Prelude.{bit_and, bit_or, bit_xor}
use Rattle.std.specs.Int.{bit_at}
use Rattle.std.proofs.lemmas.Bool.{cases_lt}
use Rattle.std.proofs.lemmas.Nat.{pow_pos, shr-shr, shr_split, mod_below, and_le_r}
use Rattle.std.proofs.lemmas.Nat.Bits.{bit_at-zero, bit_at_and, bit_at_or, bit_at_xor, bit_at_above}
use Rattle.std.proofs.lemmas.Nat.Bits.{bit_at_cat_low, bit_at_cat_high, same_from_bits}
use Rattle.abs_value.specs.Covers.{AreBitsOf}

-- ---- bits of shifted and cut numbers

pub left_low : (n k i : ℕ) → i < k → bit_at (n * 2 ^ k) i ≡ 0
left_low n k i lt =
    let e : n * 2 ^ k ≡ n * 2 ^ k + 0 = omega arith in
    ap (λ (z : ℕ). bit_at z i) e ∙ bit_at_cat_low n k 0 i lt ∙ bit_at-zero i

pub left_high : (n k i : ℕ) → k ≤ i → bit_at (n * 2 ^ k) i ≡ bit_at n (i - k)
left_high n k i le =
    let e : n * 2 ^ k ≡ n * 2 ^ k + 0 = omega arith in
    ap (λ (z : ℕ). bit_at z i) e ∙ bit_at_cat_high n k 0 i (pow_pos k) le

pub right_bit : (n k i : ℕ) → bit_at (n / 2 ^ k) i ≡ bit_at n (k + i)
right_bit n k i = ap (λ (z : ℕ). z % 2) (shr-shr n k i)

pub mod_low_bit : (n k i : ℕ) → i < k → bit_at (n % 2 ^ k) i ≡ bit_at n i
mod_low_bit n k i lt = sym (bit_at_cat_low (n / 2 ^ k) k (n % 2 ^ k) i lt)
    ∙ ap (λ (z : ℕ). bit_at z i) (shr_split n k)

pub mod_high_bit : (n k i : ℕ) → k ≤ i → bit_at (n % 2 ^ k) i ≡ 0
mod_high_bit n k i le = bit_at_above (n % 2 ^ k) k i (mod_below n (2 ^ k) (pow_pos k)) le

-- if the quotients by 2 ^ k are equal, so are the bits from k on
pub high_bits : (m n k i : ℕ) → m / 2 ^ k ≡ n / 2 ^ k → k ≤ i → bit_at m i ≡ bit_at n i
high_bits m n k i same le =
    let e : i ≡ k + (i - k) = omega arith in
    ap (bit_at m) e ∙ sym (right_bit m k (i - k)) ∙ ap (λ (q : ℕ). bit_at q (i - k)) same
    ∙ right_bit n k (i - k) ∙ ap (bit_at n) (sym e)

-- numbers that differ in no bit are equal
pub no_difference : (a b : ℕ) → bit_xor a b ≡ 0 → a ≡ b
no_difference a b none = same_from_bits a b one
  where
    one : (i : ℕ) → bit_at a i ≡ bit_at b i
    one i =
        let s = bit_at_xor a b i in
        let z : bit_at (bit_xor a b) i ≡ 0 = ap (λ (n : ℕ). bit_at n i) none ∙ bit_at-zero i in
        omega (arith, s, z)

-- ---- numbers within another

pub and_of_within : (m n : ℕ) → AreBitsOf m n → bit_and m n ≡ m
and_of_within m n h = same_from_bits (bit_and m n) m one
  where
    one : (i : ℕ) → bit_at (bit_and m n) i ≡ bit_at m i
    one i = let s = bit_at_and m n i in let le = h i in omega (arith, s, le)

pub within_le : (m n : ℕ) → AreBitsOf m n → m ≤ n
within_le m n h =
    let e = and_of_within m n h in let part = and_le_r m n in omega (arith, e, part)

pub within_itself : (n : ℕ) → AreBitsOf n n
within_itself n i = omega arith

pub zero_within : (n : ℕ) → AreBitsOf 0 n
zero_within n i = let none = bit_at-zero i in omega (arith, none)

pub within_then : (m n x : ℕ) → AreBitsOf m n → AreBitsOf n x → AreBitsOf m x
within_then m n x h k i = let one = h i in let two = k i in omega (arith, one, two)

pub within_and : (m n x y : ℕ) → AreBitsOf m x → AreBitsOf n y
    → AreBitsOf (bit_and m n) (bit_and x y)
within_and m n x y h k i =
    let s = bit_at_and m n i in
    let t = bit_at_and x y i in
    let one = h i in
    let two = k i in omega (arith, s, t, one, two)

pub within_or : (m n x y : ℕ) → AreBitsOf m x → AreBitsOf n y → AreBitsOf (bit_or m n) (bit_or x y)
within_or m n x y h k i =
    let s = bit_at_or m n i in
    let t = bit_at_or x y i in
    let one = h i in
    let two = k i in omega (arith, s, t, one, two)

-- both are within x, or it is within both
pub or_within : (m n x : ℕ) → AreBitsOf m x → AreBitsOf n x → AreBitsOf (bit_or m n) x
or_within m n x h k i =
    let s = bit_at_or m n i in
    let one = h i in
    let two = k i in omega (arith, s, one, two)

pub within_both : (x m n : ℕ) → AreBitsOf x m → AreBitsOf x n → AreBitsOf x (bit_and m n)
within_both x m n h k i =
    let s = bit_at_and m n i in
    let one = h i in
    let two = k i in omega (arith, s, one, two)

pub and_within : (m n : ℕ) → AreBitsOf (bit_and m n) m
and_within m n i = let s = bit_at_and m n i in omega (arith, s)

pub and_within_right : (m n : ℕ) → AreBitsOf (bit_and m n) n
and_within_right m n i = let s = bit_at_and m n i in omega (arith, s)

pub within_or_left : (m n : ℕ) → AreBitsOf m (bit_or m n)
within_or_left m n i = let s = bit_at_or m n i in omega (arith, s)

pub within_or_right : (m n : ℕ) → AreBitsOf n (bit_or m n)
within_or_right m n i = let s = bit_at_or m n i in omega (arith, s)

pub within_right : (m x k : ℕ) → AreBitsOf m x → AreBitsOf (m / 2 ^ k) (x / 2 ^ k)
within_right m x k h i =
    let s = right_bit m k i in
    let t = right_bit x k i in
    let one = h (k + i) in omega (arith, s, t, one)

pub within_left : (m x k : ℕ) → AreBitsOf m x → AreBitsOf (m * 2 ^ k) (x * 2 ^ k)
within_left m x k h i = elim (cases_lt i k) [
  | inl low ↦ let s = left_low m k i low in omega (arith, s)
  | inr high ↦
      let s = left_high m k i high in
      let t = left_high x k i high in
      let one = h (i - k) in omega (arith, s, t, one)
]

pub within_mod : (m x k : ℕ) → AreBitsOf m x → AreBitsOf (m % 2 ^ k) (x % 2 ^ k)
within_mod m x k h i = elim (cases_lt i k) [
  | inl low ↦
      let s = mod_low_bit m k i low in
      let t = mod_low_bit x k i low in
      let one = h i in omega (arith, s, t, one)
  | inr high ↦ let s = mod_high_bit m k i high in omega (arith, s)
]
