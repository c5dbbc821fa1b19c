-- A number that tidy leaves unchanged: the bits allow both ends, and no bit above the highest one
-- in which the ends differ is unknown.
use Rattle.std.proofs.Common.{◌≡◌, ℕ, ◌+◌, ◌-◌, ◌/◌, ◌^◌, ◌<◌, ◌≤◌, min, max, true}
use Rattle.std.proofs.Common.{refl, sym, ap, ◌∙◌, arith, inl, inr}
use Rattle.std.specs.Prelude.{bit_and, bit_or, bit_xor, nat_le, ◌&&◌, ◌==◌}
use Rattle.std.specs.Int.{bit_at, bit_not, leading_zeros, w64}
use Rattle.std.proofs.lemmas.Bool.{cases_Bool, cases_lt}
use Rattle.std.proofs.lemmas.Nat.{pow_pos, xor_shr}
use Rattle.std.proofs.lemmas.Nat.Bits.{bit_at-zero, bit_at-lt, bit_at_above, bit_at_and}
use Rattle.std.proofs.lemmas.Nat.Bits.{bit_at_or, bit_at_not, same_from_bits}
use lib.Pow.{pow_mono}
use Rattle.abs_value.specs.declared.interval.Interval.{Interval}
use Rattle.abs_value.specs.declared.known_bits.KnownBits.{KnownBits}
use Rattle.abs_value.specs.declared.number.Number.{Number}
use Rattle.abs_value.specs.Known.{known, combined}
use Rattle.abs_value.specs.Numbers.{number, trimmed, with_shared, tidy, is_empty, tidied}
use Rattle.abs_value.specs.Numbers.{is_same, join_numbers}
use Rattle.abs_value.specs.Covers.{AreBitsOf}
use Rattle.abs_value.proofs.ShiftedRanges.{div-le-div, below_power}
use Rattle.std.proofs.lemmas.Nat.{and_le_l}
use Rattle.abs_value.proofs.Within.{right_bit, no_difference, and_of_within, within_itself}
use Rattle.abs_value.proofs.Tidy.{above_within, within_above}

-- ---- bits of one number above the highest bit of another

high_bit : (u s k j : ℕ) → u < 2 ^ 64 → s < 2 ^ k → k ≤ 64 → bit_and u (bit_not w64 s) ≤ s
    → k ≤ j → bit_at u j ≡ 0
high_bit u s k j word small le less from = elim (cases_lt j 64) [
  | inl lt ↦
      let wide : s < 2 ^ 64 = (let more = pow_mono le in omega (arith, more, small)) in
      let part = bit_at_and u (bit_not w64 s) j in
      let other = bit_at_not w64 s j wide (omega arith) in
      let none = bit_at_above s k j small from in
      let cut = bit_at_above (bit_and u (bit_not w64 s)) k j (omega (arith, less, small)) from in
      let one = bit_at-lt u j in omega (arith, part, other, none, cut, one)
  | inr past ↦ bit_at_above u 64 j word past
]

none_higher : (u s k : ℕ) → u < 2 ^ 64 → s < 2 ^ k → k ≤ 64 → bit_and u (bit_not w64 s) ≤ s
    → u / 2 ^ k ≡ 0
none_higher u s k word small le less = same_from_bits (u / 2 ^ k) 0 one
  where
    one : (i : ℕ) → bit_at (u / 2 ^ k) i ≡ bit_at 0 i
    one i =
        let there = right_bit u k i in
        let high = high_bit u s k (k + i) word small le less (omega arith) in
        let none = bit_at-zero i in omega (arith, there, high, none)

-- ---- the result of tidy

or_of_within : (m n : ℕ) → AreBitsOf m n → bit_or n m ≡ n
or_of_within m n h = same_from_bits (bit_or n m) n one
  where
    one : (i : ℕ) → bit_at (bit_or n m) i ≡ bit_at n i
    one i = let s = bit_at_or n m i in let le = h i in omega (arith, s, le)

-- above bit k all four are the same, so nothing more becomes known
none_shared : (a : Interval) (p : KnownBits) (k : ℕ) → k ≤ 64 → p.has ≤ a.lo → a.hi ≤ p.may_have
    → bit_xor a.lo a.hi / 2 ^ k ≡ 0 → bit_xor p.has p.may_have / 2 ^ k ≡ 0
    → combined p (known (bit_and a.lo (bit_not w64 (2 ^ k - 1))) (bit_or a.lo (2 ^ k - 1))) ≡ p
none_shared a p k le from to ends bits =
    let one = no_difference (a.lo / 2 ^ k) (a.hi / 2 ^ k) (sym (xor_shr a.lo a.hi k) ∙ ends) in
    let two = no_difference (p.has / 2 ^ k) (p.may_have / 2 ^ k)
    (sym (xor_shr p.has p.may_have k) ∙ bits) in
    let least = div-le-div p.has a.lo (2 ^ k) (pow_pos k) from in
    let most = div-le-div a.hi p.may_have (2 ^ k) (pow_pos k) to in
    let has = or_of_within (bit_and a.lo (bit_not w64 (2 ^ k - 1))) p.has
    (above_within a.lo p.has k le (omega (arith, one, two, least, most))) in
    let may_have = and_of_within p.may_have (bit_or a.lo (2 ^ k - 1))
    (within_above a.lo p.may_have k (omega (arith, one, two, least, most))) in
    rw (has, may_have) refl

none_trimmed : (a : Interval) (p : KnownBits) → p.has ≤ a.lo → a.hi ≤ p.may_have
    → trimmed a p ≡ a
none_trimmed a p from to =
    let lo : max a.lo p.has ≡ a.lo = grind arith in
    let hi : min a.hi p.may_have ≡ a.hi = grind arith in rw (lo, hi) refl

tidy_settled : (a : Interval) (p : KnownBits) → bit_xor p.has p.may_have < 2 ^ 64
    → bit_xor a.lo a.hi < 2 ^ 64 → p.has ≤ a.lo → a.hi ≤ p.may_have
    → bit_and (bit_xor p.has p.may_have) (bit_not w64 (bit_xor a.lo a.hi)) ≤ bit_xor a.lo a.hi
    → tidy a p ≡ number a p
unfolding tidy
tidy_settled a p unknown differing from to less =
    let small = below_power (bit_xor a.lo a.hi) (bit_xor a.lo a.hi) (omega arith) differing in
    ap (λ b. with_shared b p) (none_trimmed a p from to) ∙ ap (number a)
    (none_shared a p (64 - leading_zeros w64 (bit_xor a.lo a.hi)) (omega arith) from to
    (none_higher (bit_xor a.lo a.hi) (bit_xor a.lo a.hi)
    (64 - leading_zeros w64 (bit_xor a.lo a.hi)) differing small (omega arith)
    (and_le_l (bit_xor a.lo a.hi) _))
    (none_higher (bit_xor p.has p.may_have) (bit_xor a.lo a.hi)
    (64 - leading_zeros w64 (bit_xor a.lo a.hi)) unknown small (omega arith) less))

settled_by : (a : Interval) (p : KnownBits) → bit_xor p.has p.may_have < 2 ^ 64
    → bit_xor a.lo a.hi < 2 ^ 64 → p.has ≤ a.lo → a.hi ≤ p.may_have
    → bit_and (bit_xor p.has p.may_have) (bit_not w64 (bit_xor a.lo a.hi)) ≤ bit_xor a.lo a.hi
    → tidied a p ≡ number a p
unfolding tidied
settled_by a p unknown differing from to less = elim (cases_Bool (is_empty (tidy a p))) [
  | inl none ↦ rw none refl
  | inr some ↦ rw some (tidy_settled a p unknown differing from to less)
]

pub settled : (a : Interval) (p : KnownBits) → bit_xor p.has p.may_have < 2 ^ 64
    → bit_xor a.lo a.hi < 2 ^ 64 → p.has ≤ a.lo → a.hi ≤ p.may_have
    → nat_le (bit_and (bit_xor p.has p.may_have) (bit_not w64 (bit_xor a.lo a.hi)))
    (bit_xor a.lo a.hi) ≡ true → tidied a p ≡ number a p
settled a p unknown differing from to less =
    settled_by a p unknown differing from to (grind (arith, less))

-- if the ends are those of the bits, the unknown bits are those that differ
pub exact_settled : (a : Interval) (p : KnownBits) → bit_xor p.has p.may_have < 2 ^ 64
    → bit_xor a.lo a.hi < 2 ^ 64 → ((p.has == a.lo) && (p.may_have == a.hi)) ≡ true
    → tidied a p ≡ number a p
exact_settled a p unknown differing exact =
    let lo : p.has ≡ a.lo = grind (arith, exact) in
    let hi : p.may_have ≡ a.hi = grind (arith, exact) in
    settled_by a p unknown differing (omega (arith, lo)) (omega (arith, hi))
    (rw (lo, hi) (and_le_l (bit_xor a.lo a.hi) (bit_not w64 (bit_xor a.lo a.hi))))

-- a number joined with itself is tidied once more
pub joined_same : (a b : Number) → is_same a b ≡ true → tidied a.range a.bits ≡ a
    → join_numbers a b ≡ a
joined_same a b same settled =
    let lo : min a.range.lo b.range.lo ≡ a.range.lo = grind (arith, same) in
    let hi : max a.range.hi b.range.hi ≡ a.range.hi = grind (arith, same) in
    let has : a.bits.has ≡ b.bits.has = grind (arith, same) in
    let may_have : a.bits.may_have ≡ b.bits.may_have = grind (arith, same) in
    let one = and_of_within a.bits.has a.bits.has (within_itself a.bits.has) in
    let two = or_of_within a.bits.may_have a.bits.may_have (within_itself a.bits.may_have) in
    rw (lo, hi, ← has, ← may_have, one, two) settled
