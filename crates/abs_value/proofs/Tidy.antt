-- Tidy keeps the numbers that an interval and known bits represent, and adds none.
use Rattle.std.proofs.Common.{◌≡◌, ℕ, ◌-◌, ◌/◌, ◌^◌, ◌<◌, ◌≤◌, true}
use Rattle.std.proofs.Common.{false, refl, sym, ◌∙◌, arith, inl, inr}
use Rattle.std.specs.Prelude.{bit_and, bit_or, bit_xor, nat_lt}
use Rattle.std.specs.Int.{bit_at, bit_not, leading_zeros, w64}
use Rattle.std.proofs.lemmas.Bool.{cases_Bool, cases_lt}
use Rattle.std.proofs.lemmas.Nat.{pow_pos, xor_shr}
use Rattle.std.proofs.lemmas.Nat.Bits.{bit_at_and, bit_at_or, bit_at_not, bit_at_ones, bit_at-lt}
use native.Mathlib.Nat.{div-eq_of_lt}
use lib.Pow.{pow_mono}
use Rattle.abs_value.specs.declared.interval.Interval.{Interval}
use Rattle.abs_value.specs.declared.known_bits.KnownBits.{KnownBits}
use Rattle.abs_value.specs.declared.number.Number.{Number}
use Rattle.abs_value.specs.Intervals.{IsRange}
use Rattle.abs_value.specs.Known.{is_consistent, shared}
use Rattle.abs_value.specs.Numbers.{number, trimmed, with_shared, tidy, is_empty, tidied}
use Rattle.abs_value.specs.Covers.{IsWord, IsBetween, AreBitsOf, Fits, Holds}
use Rattle.abs_value.proofs.ShiftedRanges.{div-le-div, wide, below_power}
use Rattle.abs_value.proofs.Within.{high_bits, no_difference, and_of_within, within_le}
use Rattle.abs_value.proofs.Within.{within_then, or_within, within_both, and_within, within_or_left}

-- ---- above the highest bit in which the ends differ, all numbers between them are the same

same_prefix : (lo hi x k : ℕ) → lo ≤ x → x ≤ hi → bit_xor lo hi < 2 ^ k
    → lo / 2 ^ k ≡ x / 2 ^ k
same_prefix lo hi x k from to small =
    let none : bit_xor (lo / 2 ^ k) (hi / 2 ^ k) ≡ 0 =
    sym (xor_shr lo hi k) ∙ div-eq_of_lt small in
    let ends : lo / 2 ^ k ≡ hi / 2 ^ k = no_difference (lo / 2 ^ k) (hi / 2 ^ k) none in
    let one = div-le-div lo x (2 ^ k) (pow_pos k) from in
    let two = div-le-div x hi (2 ^ k) (pow_pos k) to in
    omega (arith, ends, one, two)

-- the number of low bits that may differ
places : Interval → ℕ
places a = 64 - leading_zeros w64 (bit_xor a.lo a.hi)

prefix : (a : Interval) (x : ℕ) → IsWord x → IsBetween a x
    → a.lo / 2 ^ places a ≡ x / 2 ^ places a
unfolding places
prefix a x word h = elim (cases_lt (bit_xor a.lo a.hi) (2 ^ 64)) [
  | inl short ↦ same_prefix a.lo a.hi x (64 - leading_zeros w64 (bit_xor a.lo a.hi)) h.0 h.1
      (below_power (bit_xor a.lo a.hi) (bit_xor a.lo a.hi) (omega arith) short)
  | inr long ↦
      let none = wide 64 (bit_xor a.lo a.hi) long in
      let all : 64 - leading_zeros w64 (bit_xor a.lo a.hi) ≡ 64 = omega (arith, none) in
      rw all (omega (arith, h.0, word))
]

few_places : (a : Interval) → places a ≤ 64
unfolding places
few_places a = omega arith

-- the mask of the low bits, and of the others
low_mask : (k i : ℕ) → k ≤ 64 → i < k → bit_at (bit_not w64 (2 ^ k - 1)) i ≡ 0
low_mask k i le lt =
    let ones = bit_at_ones k i lt in
    let small : 2 ^ k - 1 < 2 ^ 64 = (let more = pow_mono le in omega (arith, more)) in
    let s = bit_at_not w64 (2 ^ k - 1) i small (omega arith) in omega (arith, s, ones)

pub above_within : (m x k : ℕ) → k ≤ 64 → m / 2 ^ k ≡ x / 2 ^ k
    → AreBitsOf (bit_and m (bit_not w64 (2 ^ k - 1))) x
above_within m x k le same i = elim (cases_lt i k) [
  | inl low ↦
      let s = bit_at_and m (bit_not w64 (2 ^ k - 1)) i in
      let none = low_mask k i le low in omega (arith, s, none)
  | inr high ↦
      let s = bit_at_and m (bit_not w64 (2 ^ k - 1)) i in
      let e = high_bits m x k i same high in omega (arith, s, e)
]

pub within_above : (m x k : ℕ) → m / 2 ^ k ≡ x / 2 ^ k → AreBitsOf x (bit_or m (2 ^ k - 1))
within_above m x k same i = elim (cases_lt i k) [
  | inl low ↦
      let s = bit_at_or m (2 ^ k - 1) i in
      let one = bit_at_ones k i low in
      let small = bit_at-lt x i in omega (arith, s, one, small)
  | inr high ↦
      let s = bit_at_or m (2 ^ k - 1) i in
      let e = high_bits m x k i same high in omega (arith, s, e)
]

shared_fits : (a : Interval) (x : ℕ) → IsWord x → IsBetween a x → Fits (shared a) x
unfolding places
shared_fits a x word h = record {
  has = above_within a.lo x (places a) (few_places a) (prefix a x word h);
  no_others = within_above a.lo x (places a) (prefix a x word h);
}

-- ---- tidy

pub trimmed_has : (a : Interval) (p : KnownBits) (x : ℕ) → IsBetween a x → Fits p x
    → IsBetween (trimmed a p) x
trimmed_has a p x h k =
    let least = within_le p.has x k.has in
    let most = within_le x p.may_have k.no_others in
    (omega (arith, h.0, least), omega (arith, h.1, most))

shared_holds : (a : Interval) (p : KnownBits) (x : ℕ) → IsWord x → IsBetween a x → Fits p x
    → Holds (with_shared a p) x
shared_holds a p x word h k =
    let s = shared_fits a x word h in
    record {
      between = h;
      word = word;
      bits = record {
        has = or_within p.has (shared a).has x k.has s.has;
        no_others = within_both x p.may_have (shared a).may_have k.no_others s.no_others;
      };
    }

pub tidy_holds : (a : Interval) (p : KnownBits) (x : ℕ) → IsWord x → IsBetween a x → Fits p x
    → Holds (tidy a p) x
unfolding tidy
tidy_holds a p x word h k = shared_holds (trimmed a p) p x word (trimmed_has a p x h k) k

pub tidy_only : (a : Interval) (p : KnownBits) (x : ℕ) → Holds (tidy a p) x
    → IsBetween a x × Fits p x
unfolding tidy
tidy_only a p x h =
    let bits = shared (trimmed a p) in (
      (omega (arith, h.between.0), omega (arith, h.between.1)),
      record {
        has = within_then p.has (bit_or p.has bits.has) x (within_or_left p.has bits.has)
            h.bits.has;
        no_others = within_then x (bit_and p.may_have bits.may_have) p.may_have h.bits.no_others
            (and_within p.may_have bits.may_have);
      },
    )

-- a number that is found empty represents no number
pub not_empty : (a : Number) (x : ℕ) → Holds a x → is_empty a ≡ false
not_empty a x h =
    let order : nat_lt a.range.hi a.range.lo ≡ false = grind (arith, h.between) in
    let bits = and_of_within a.bits.has a.bits.may_have
    (within_then a.bits.has x a.bits.may_have h.bits.has h.bits.no_others) in
    let same : is_consistent a.bits ≡ true = grind (arith, bits) in
    rw (order, same) refl

-- ---- results

pub tidied_holds : (a : Interval) (p : KnownBits) (x : ℕ) → IsWord x → IsBetween a x → Fits p x
    → Holds (tidied a p) x
unfolding tidied
tidied_holds a p x word h k =
    let holds = tidy_holds a p x word h k in
    let some = not_empty (tidy a p) x holds in rw some holds

pub tidied_only : (a : Interval) (p : KnownBits) (x : ℕ) → Holds (tidied a p) x
    → IsBetween a x × Fits p x
unfolding tidied
tidied_only a p x h = elim (cases_Bool (is_empty (tidy a p))) [
  | inl none ↦ let same : Holds (number a p) x = rw none at h in (same.between, same.bits)
  | inr some ↦ let same : Holds (tidy a p) x = rw some at h in tidy_only a p x same
]

-- the ends of a number that isn't found empty are in order
pub some_range : (a : Number) → is_empty a ≡ false → IsRange a.range
some_range a some = grind (arith, some)

pub tidied_range : (a : Interval) (p : KnownBits) → IsRange a → IsRange (tidied a p).range
unfolding tidied
tidied_range a p h = elim (cases_Bool (is_empty (tidy a p))) [
  | inl none ↦ rw none h
  | inr some ↦ rw some (some_range (tidy a p) some)
]
