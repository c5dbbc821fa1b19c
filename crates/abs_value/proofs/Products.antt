-- Products, quotients and remainders of the numbers of two ranges are between the computed ends.
use Rattle.std.proofs.Common.{◌≡◌, ℕ, ◌*◌, ◌/◌, ◌%◌, ◌^◌, ◌<◌, ◌≤◌, false}
use Rattle.std.proofs.Common.{arith, inl, inr, div-le_self, div-mul-le_self}
use Rattle.std.specs.Prelude.{nat_le, ◌==◌, if◌then◌else◌}
use mir.Val.{bits}
use Rattle.std.proofs.Math.Nat.{mod-le}
use Rattle.std.proofs.lemmas.Bool.{cases_Bool, and_parts, leb-true}
use Rattle.std.proofs.lemmas.Nat.{mul-le, le-div, mod_below}
use Rattle.bpf_insn.specs.declared.operand.Bits.{Bits}
use Rattle.bpf_insn.specs.Words.{word_width}
use Rattle.abs_value.specs.declared.interval.Interval.{Interval}
use Rattle.abs_value.specs.Bounds.{product, is_above_zero, quotient, remainder}
use Rattle.abs_value.specs.Covers.{IsBetween}
use Rattle.abs_value.proofs.ShiftedRanges.{fitting_holds, div-le-div}

pub product_holds : (w : Bits) (a b : Interval) (x y : ℕ) → IsBetween a x → IsBetween b y
    → IsBetween (product w a b) (x * y % 2 ^ bits (word_width w))
product_holds w a b x y h k = fitting_holds w (a.lo * b.lo) (a.hi * b.hi) (x * y)
    (mul-le a.lo b.lo x y h.0 k.0) (mul-le x y a.hi b.hi h.1 k.1)

-- a greater divisor gives no greater quotient
div_down : (x m n : ℕ) → 0 < m → m ≤ n → x / n ≤ x / m
div_down x m n some le =
    let part = div-mul-le_self x n in
    let less = mul-le (x / n) m (x / n) n (omega arith) le in
    le-div (x / n) x m some (omega (arith, part, less))

pub quotient_holds : (a b : Interval) (x y : ℕ) → IsBetween a x → IsBetween b y
    → IsBetween (quotient a b) (if y == 0 then 0 else x / y)
quotient_holds a b x y h k = elim (cases_Bool (is_above_zero b)) [
  | inl is ↦
      let parts = and_parts (nat_le 1 b.lo) (nat_le 1 b.hi) is in
      let least : 1 ≤ b.lo = leb-true 1 b.lo parts.0 in
      let some : (y == 0) ≡ false = grind (arith, least, k) in
      let one = div-le-div a.lo x b.hi (omega (arith, least, k)) h.0 in
      let two = div_down x y b.hi (omega (arith, least, k)) k.1 in
      let three = div_down x b.lo y (omega (arith, least)) k.0 in
      let four = div-le-div x a.hi b.lo (omega (arith, least)) h.1 in
      rw (is, some) (omega (arith, one, two), omega (arith, three, four))
  | inr is ↦ elim (cases_Bool (y == 0)) [
    | inl none ↦ rw (is, none) (omega arith, omega arith)
    | inr some ↦ let part = div-le_self x y in rw (is, some) (omega arith, omega (arith, part, h.1))
  ]
]

pub remainder_holds : (a b : Interval) (x y : ℕ) → IsBetween a x → IsBetween b y
    → IsBetween (remainder a b) (if y == 0 then x else x % y)
remainder_holds a b x y h k = elim (cases_Bool (is_above_zero b)) [
  | inl is ↦
      let parts = and_parts (nat_le 1 b.lo) (nat_le 1 b.hi) is in
      let least : 1 ≤ b.lo = leb-true 1 b.lo parts.0 in
      let some : (y == 0) ≡ false = grind (arith, least, k) in
      let small = mod_below x y (omega (arith, least, k)) in
      let part = mod-le x y in
      rw (is, some) (omega arith, omega (arith, small, part, h.1, k.1))
  | inr is ↦ elim (cases_Bool (y == 0)) [
    | inl none ↦ rw (is, none) (omega arith, h.1)
    | inr some ↦ let part = mod-le x y in rw (is, some) (omega arith, omega (arith, part, h.1))
  ]
]
