-- Numbers with a common bit, and numbers without one.
use Rattle.std.proofs.Common.{◌≡◌, ◌≢◌, ℕ, suc, ◌-◌, ◌*◌, ◌/◌, ◌%◌, ◌^◌, ◌<◌, ◌≤◌, true}
use Rattle.std.proofs.Common.{sym, ap, subst, ◌∙◌, arith, inl, inr, pow-suc, zero-mul}
use Rattle.std.specs.Prelude.{bit_and}
use Rattle.std.specs.Int.{w64, bit_at, bit_not}
use Rattle.std.proofs.lemmas.Bool.{cases_Bool, cases_eq, cases_lt}
use Rattle.std.proofs.lemmas.Nat.{pow_pos, le-div, div_below, leading_top}
use Rattle.std.proofs.lemmas.Nat.Bits.{bit_at-zero, bit_at_and, bit_at-lt}
use Rattle.std.proofs.lemmas.Nat.Bits.{bit_at-pow_other, bit_at_not, bit_at_above, and_pow}
use Rattle.abs_value.specs.declared.known_bits.KnownBits.{KnownBits}
use Rattle.abs_value.specs.Narrowing.{is_one_bit, with_one_of, without_bits}
use Rattle.abs_value.specs.Covers.{IsWord, AreBitsOf, Fits}
use Rattle.abs_value.proofs.Within.{within_le, within_itself, zero_within}
use Rattle.abs_value.proofs.Within.{within_and, or_within, within_both}

-- the highest bit
top_bit : (m j : ℕ) → 2 ^ j ≤ m → m < 2 ^ suc j → bit_at m j ≡ 1
top_bit m j from to =
    let twice = pow-suc 2 j in
    let least = le-div 1 m (2 ^ j) (pow_pos j) (omega (arith, from)) in
    let most = div_below m (2 ^ j) 2 (pow_pos j) (omega (arith, to, twice)) in
    let one : m / 2 ^ j ≡ 1 = omega (arith, least, most) in
    ap (λ (q : ℕ). q % 2) one

one_bit_power : (n j : ℕ) → bit_and n (n - 1) ≡ 0 → 2 ^ j ≤ n → n < 2 ^ suc j → n ≡ 2 ^ j
one_bit_power n j none from to = elim (cases_eq n (2 ^ j)) [
  | inl is ↦ is
  | inr more ↦
      let s = bit_at_and n (n - 1) j in
      let z : bit_at (bit_and n (n - 1)) j ≡ 0 = ap (λ (m : ℕ). bit_at m j) none ∙ bit_at-zero j in
      let one = top_bit n j from to in
      let two = top_bit (n - 1) j (omega (arith, from, more)) (omega (arith, to)) in
      absurd (omega (arith, s, z, one, two))
]

-- a number that has a bit in common with a power of two has that bit
set_bit : (x j : ℕ) → bit_and x (2 ^ j) ≢ 0 → bit_at x j ≡ 1
set_bit x j some = elim (cases_eq (bit_at x j) 0) [
  | inl none ↦ absurd (some (and_pow x j ∙ ap (λ (d : ℕ). d * 2 ^ j) none ∙ zero-mul (2 ^ j)))
  | inr one ↦ let lt = bit_at-lt x j in omega (arith, one, lt)
]

power_within : (x j : ℕ) → bit_and x (2 ^ j) ≢ 0 → AreBitsOf (2 ^ j) x
power_within x j some i = elim (cases_eq i j) [
  | inl same ↦
      let one = set_bit x j some in
      let lt = bit_at-lt (2 ^ j) j in
      rw same (omega (arith, one, lt))
  | inr other ↦ let none = bit_at-pow_other j i other in omega (arith, none)
]

one_bit_within : (x n : ℕ) → IsWord n → is_one_bit n ≡ true → bit_and x n ≢ 0 → AreBitsOf n x
one_bit_within x n wn is some = elim (cases_eq n 0) [
  | inl none ↦ rw none (zero_within x)
  | inr there ↦
      let e : bit_and n (n - 1) ≡ 0 = grind (arith, is) in
      let top = leading_top 64 n (omega (arith, there)) wn in
      let power = one_bit_power n top.0 e top.2 top.3 in
      subst (λ (m : ℕ). bit_and x m ≢ 0 → AreBitsOf m x) (sym power) (power_within x top.0) some
]

pub one_of_fits : (n x : ℕ) (p : KnownBits) → IsWord n → Fits p x → bit_and x n ≢ 0
    → Fits (with_one_of n p) x
one_of_fits n x p wn h some = elim (cases_Bool (is_one_bit n)) [
  | inl is ↦ rw is (record {
    has = or_within p.has n x h.has (one_bit_within x n wn is some);
    no_others = h.no_others;
  })
  | inr is ↦ rw is h
]

-- if the number has a bit of n, so have its possible bits
pub shares_too : (m n x : ℕ) → AreBitsOf x m → bit_and x n ≢ 0 → bit_and m n ≢ 0
shares_too m n x h some none =
    let le = within_le (bit_and x n) (bit_and m n) (within_and x n m n h (within_itself n)) in
    some (omega (arith, le, none))

apart_within : (x n : ℕ) → IsWord x → IsWord n → bit_and x n ≡ 0 → AreBitsOf x (bit_not w64 n)
apart_within x n wx wn none i = elim (cases_lt i 64) [
  | inl low ↦
      let s = bit_at_not w64 n i wn low in
      let t = bit_at_and x n i in
      let z : bit_at (bit_and x n) i ≡ 0 = ap (λ (m : ℕ). bit_at m i) none ∙ bit_at-zero i in
      let lt = bit_at-lt x i in
      let other = bit_at-lt n i in omega (arith, s, t, z, lt, other)
  | inr high ↦ let above = bit_at_above x 64 i wx high in omega (arith, above)
]

pub without_fits : (n x : ℕ) (p : KnownBits) → IsWord x → IsWord n → Fits p x → bit_and x n ≡ 0
    → Fits (without_bits n p) x
without_fits n x p wx wn h none = record {
  has = h.has;
  no_others = within_both x p.may_have (bit_not w64 n) h.no_others (apart_within x n wx wn none);
}
