-- Shifts of the numbers of a range are between the shifts of its ends; OR and XOR stay below a
-- power of two.
use Rattle.std.proofs.Common.{◌≡◌, ℕ, zero, suc, ◌-◌, ◌*◌, ◌/◌, ◌%◌, ◌^◌, ◌<◌, ◌≤◌}
use Rattle.std.proofs.Common.{ℤ, max, refl, ap, arith, inl, inr}
use Rattle.std.specs.Prelude.{nat_lt}
use Rattle.std.specs.Int.{w32, w64, leading_zeros, cast_signed, cast_unsigned, int_shr}
use mir.Val.{bits}
use lib.Count.{count_leading_zeros}
use Rattle.std.proofs.Math.Nat.{mul-le-mul_right, div-mul-le_self, pow-succ'}
use Rattle.std.proofs.lemmas.Bool.{cases_lt, cases_Bool, ltb-true}
use Rattle.std.proofs.lemmas.Int.{to_z_pos}
use Rattle.std.proofs.lemmas.Nat.{pow_pos, le-div, leading_length}
use Rattle.bpf_insn.specs.declared.operand.Bits.{Bits}
use Rattle.bpf_insn.specs.declared.operand.Bits.TheVariants.{Bits64, Bits32}
use Rattle.bpf_insn.specs.Words.{word_width}
use Rattle.abs_value.specs.declared.interval.Interval.{Interval}
use Rattle.abs_value.specs.Bounds.{fitting, power_above, disjunction, shifted_left}
use Rattle.abs_value.specs.Bounds.{shifted_right, shifted_signed, sign_bit}
use Rattle.abs_value.specs.Covers.{IsBetween}
use Rattle.abs_value.proofs.Cuts.{IsOf, all_of_holds}

-- ---- the range if it fits, otherwise all numbers

pub fitting_holds : (w : Bits) (lo hi x : ℕ) → lo ≤ x → x ≤ hi
    → IsBetween (fitting w lo hi) (x % 2 ^ bits (word_width w))
fitting_holds Bits64 lo hi x from to = grind arith
fitting_holds Bits32 lo hi x from to = grind arith

pub shifted_left_holds : (w : Bits) (a : Interval) (count x : ℕ) → IsBetween a x
    → IsBetween (shifted_left w a count) ((x * 2 ^ count) % 2 ^ bits (word_width w))
shifted_left_holds w a count x h = fitting_holds w (a.lo * 2 ^ count) (a.hi * 2 ^ count)
    (x * 2 ^ count) (mul-le-mul_right (2 ^ count) h.0) (mul-le-mul_right (2 ^ count) h.1)

pub div-le-div : (x y k : ℕ) → 0 < k → x ≤ y → x / k ≤ y / k
div-le-div x y k some le =
    let part = div-mul-le_self x k in le-div (x / k) y k some (omega (arith, part, le))

pub shifted_right_holds : (a : Interval) (count x : ℕ) → IsBetween a x
    → IsBetween (shifted_right a count) (x / 2 ^ count)
shifted_right_holds a count x h = (
  div-le-div a.lo x (2 ^ count) (pow_pos count) h.0,
  div-le-div x a.hi (2 ^ count) (pow_pos count) h.1,
)

-- ---- OR and XOR

pub wide : (k n : ℕ) → 2 ^ k ≤ n → count_leading_zeros k n ≡ 0
unfolding count_leading_zeros
wide zero n h = refl
wide (suc k) zero h = let some = pow_pos (suc k) in absurd (omega arith)
wide (suc k) (suc n) h =
    let power = pow-succ' 2 k in
    wide k (suc n / 2) (le-div (2 ^ k) (suc n) 2 (omega arith) (omega (arith, power, h)))

-- numbers up to n, of 64 bits, are below the power of two above n
pub below_power : (n x : ℕ) → x ≤ n → x < 2 ^ 64 → x < power_above n
below_power n x le fits = elim (cases_lt n (2 ^ 64)) [
  | inl short ↦ let digits = leading_length 64 n short in
      let e : 64 - leading_zeros w64 n ≡ digits.0 = omega arith in rw e (omega arith)
  | inr long ↦ let e : leading_zeros w64 n ≡ 0 = wide 64 n long in rw e (omega arith)
]

pub disjunction_holds : (a b : Interval) (x y z : ℕ) → IsBetween a x → IsBetween b y → x < 2 ^ 64
    → y < 2 ^ 64
    → ((k : ℕ) → x < 2 ^ k → y < 2 ^ k → z < 2 ^ k) → IsBetween (disjunction a b) z
disjunction_holds a b x y z h k short fits both =
    let first : x < power_above (max a.hi b.hi) =
    below_power (max a.hi b.hi) x (omega (arith, h.1)) short in
    let second : y < power_above (max a.hi b.hi) =
    below_power (max a.hi b.hi) y (omega (arith, k.1)) fits in
    let result : z < power_above (max a.hi b.hi) =
    both (64 - leading_zeros w64 (max a.hi b.hi)) first second in
    (omega arith, omega (arith, result))

-- ---- ARSH

pub arsh_low : (w : Bits) (x count : ℕ) → x < sign_bit w
    → cast_unsigned (word_width w) (int_shr (cast_signed (word_width w) x) count) ≡ x / 2 ^ count
arsh_low Bits64 x count lt = ap (λ (z : ℤ). cast_unsigned w64 (int_shr z count)) (to_z_pos w64 x lt)
arsh_low Bits32 x count lt = ap (λ (z : ℤ). cast_unsigned w32 (int_shr z count)) (to_z_pos w32 x lt)

pub shifted_signed_holds : (w : Bits) (a : Interval) (count x : ℕ) → IsBetween a x
    → IsOf w (cast_unsigned (word_width w) (int_shr (cast_signed (word_width w) x) count))
    → IsBetween (shifted_signed w a count)
    (cast_unsigned (word_width w) (int_shr (cast_signed (word_width w) x) count))
shifted_signed_holds w a count x h fits = elim (cases_Bool (nat_lt a.hi (sign_bit w))) [
  | inl low ↦ let below : a.hi < sign_bit w = ltb-true a.hi (sign_bit w) low in
      rw (low, arsh_low w x count (omega (arith, below, h.1))) (shifted_right_holds a count x h)
  | inr high ↦ rw high
      (all_of_holds w (cast_unsigned (word_width w) (int_shr (cast_signed (word_width w) x) count))
      fits)
]
