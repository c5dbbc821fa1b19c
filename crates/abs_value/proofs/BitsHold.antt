-- The known bits of a result are those of the machine's result.
use Rattle.std.proofs.Common.{◌≡◌, ℕ, ◌+◌, ◌-◌, ◌*◌, ◌/◌, ◌%◌, ◌^◌, ◌<◌, ◌≤◌}
use Rattle.std.proofs.Common.{max, refl, sym, ◌∙◌, subst, arith, inl, inr}
use Rattle.std.specs.Prelude.{if◌then◌else◌, ◌&&◌, nat_lt, bit_or, bit_xor}
use Rattle.std.specs.Int.{bit_at}
use mir.Val.{bits}
use Rattle.std.proofs.lemmas.Bool.{cases_Bool, cases_lt, ltb-true, and_parts}
use Rattle.std.proofs.lemmas.Nat.Bits.{bit_at-lt, bit_at_or, bit_at_xor, bit_at_ones, bit_at_above}
use Rattle.bpf_insn.specs.declared.operand.AluOp.{AluOp}
use Rattle.bpf_insn.specs.declared.operand.AluOp.TheVariants.{Add, Sub, Mul, Div, Sdiv, Or, And}
use Rattle.bpf_insn.specs.declared.operand.AluOp.TheVariants.{Lsh, Rsh, Mod, Smod, Xor, Arsh}
use Rattle.bpf_insn.specs.declared.operand.Bits.{Bits}
use Rattle.bpf_insn.specs.declared.operand.Bits.TheVariants.{Bits64, Bits32}
use Rattle.bpf_insn.specs.Words.{word_width, word}
use Rattle.bpf_insn.specs.Arithmetic.{arithmetic}
use Rattle.abs_value.specs.declared.interval.Interval.{Interval}
use Rattle.abs_value.specs.declared.known_bits.KnownBits.{KnownBits}
use Rattle.abs_value.specs.declared.number.Number.{Number}
use Rattle.abs_value.specs.Intervals.{is_just}
use Rattle.abs_value.specs.Bounds.{count_of, sign_bit}
use Rattle.abs_value.specs.Known.{some_of, any_of, unknown, xor_bits}
use Rattle.abs_value.specs.Known.{left_bits, right_bits, cut_bits}
use Rattle.abs_value.specs.Results.{known_bits}
use Rattle.abs_value.specs.Covers.{IsBetween, AreBitsOf, Fits, Holds}
use Rattle.abs_value.proofs.Cuts.{IsOf}
use Rattle.abs_value.proofs.ShiftedRanges.{arsh_low}
use Rattle.abs_value.proofs.Within.{zero_within, within_and, within_or}
use Rattle.abs_value.proofs.Within.{within_right, within_left, within_mod}

-- any bits of the class
pub some_of_fits : (k z : ℕ) → z < 2 ^ k → Fits (some_of (2 ^ k - 1)) z
some_of_fits k z lt = record { has = zero_within z; no_others = within }
  where
    within : AreBitsOf z (2 ^ k - 1)
    within i = elim (cases_lt i k) [
      | inl low ↦
          let one = bit_at_ones k i low in
          let small = bit_at-lt z i in omega (arith, one, small)
      | inr high ↦ let none = bit_at_above z k i lt high in omega (arith, none)
    ]

pub any_of_fits : (w : Bits) (z : ℕ) → IsOf w z → Fits (any_of w) z
any_of_fits Bits64 z h = some_of_fits 64 z (omega (arith, h))
any_of_fits Bits32 z h = some_of_fits 32 z (omega (arith, h))

-- one bit of XOR: a, b and x belong to the first number, c, d and y to the second
xor_least : (a b x c d y : ℕ) → a ≤ x → x ≤ b → b < 2 → c ≤ y → y ≤ d → d < 2
    → (max ((a + c) % 2) (max ((a + b) % 2) ((c + d) % 2)) + max ((a + b) % 2) ((c + d) % 2)) % 2
    ≤ (x + y) % 2
xor_least a b x c d y h k s m n t = omega arith

xor_most : (a b x c d y : ℕ) → a ≤ x → x ≤ b → b < 2 → c ≤ y → y ≤ d → d < 2
    → (x + y) % 2 ≤ max ((a + c) % 2) (max ((a + b) % 2) ((c + d) % 2))
xor_most a b x c d y h k s m n t = omega arith

unknown_bit : (p q : KnownBits) (i : ℕ) → bit_at (bit_or (unknown p) (unknown q)) i
    ≡ max ((bit_at p.has i + bit_at p.may_have i) % 2) ((bit_at q.has i + bit_at q.may_have i) % 2)
unknown_bit p q i = bit_at_or (unknown p) (unknown q) i
    ∙ (λ j. max (bit_at_xor p.has p.may_have i j) (bit_at_xor q.has q.may_have i j))

may_bit : (p q : KnownBits) (i : ℕ) → bit_at (xor_bits p q).may_have i
    ≡ max ((bit_at p.has i + bit_at q.has i) % 2)
    (max ((bit_at p.has i + bit_at p.may_have i) % 2) ((bit_at q.has i + bit_at q.may_have i) % 2))
may_bit p q i = bit_at_or (bit_xor p.has q.has) (bit_or (unknown p) (unknown q)) i
    ∙ (λ j. max (bit_at_xor p.has q.has i j) (unknown_bit p q i j))

has_bit : (p q : KnownBits) (i : ℕ) → bit_at (xor_bits p q).has i
    ≡ (max ((bit_at p.has i + bit_at q.has i) % 2)
    (max ((bit_at p.has i + bit_at p.may_have i) % 2) ((bit_at q.has i + bit_at q.may_have i) % 2))
    + max ((bit_at p.has i + bit_at p.may_have i) % 2)
    ((bit_at q.has i + bit_at q.may_have i) % 2)) % 2
has_bit p q i = bit_at_xor (xor_bits p q).may_have (bit_or (unknown p) (unknown q)) i
    ∙ (λ j. (may_bit p q i j + unknown_bit p q i j) % 2)

xor_fits : (p q : KnownBits) (x y : ℕ) → Fits p x → Fits q y → Fits (xor_bits p q) (bit_xor x y)
xor_fits p q x y h k = record { has = has; no_others = within }
  where
    has : AreBitsOf (xor_bits p q).has (bit_xor x y)
    has i = rw (has_bit p q i, bit_at_xor x y i)
        (xor_least (bit_at p.has i) (bit_at p.may_have i) (bit_at x i) (bit_at q.has i)
        (bit_at q.may_have i) (bit_at y i) (h.has i) (h.no_others i) (bit_at-lt p.may_have i)
        (k.has i) (k.no_others i) (bit_at-lt q.may_have i))

    within : AreBitsOf (bit_xor x y) (xor_bits p q).may_have
    within i = rw (may_bit p q i, bit_at_xor x y i)
        (xor_most (bit_at p.has i) (bit_at p.may_have i) (bit_at x i) (bit_at q.has i)
        (bit_at q.may_have i) (bit_at y i) (h.has i) (h.no_others i) (bit_at-lt p.may_have i)
        (k.has i) (k.no_others i) (bit_at-lt q.may_have i))

pub cut_fits : (w : Bits) (p : KnownBits) (x : ℕ) → Fits p x → Fits (cut_bits w p) (word w x)
cut_fits Bits64 p x h = h
cut_fits Bits32 p x h = record {
  has = within_mod p.has x 32 h.has;
  no_others = within_mod x p.may_have 32 h.no_others;
}

left_fits : (p : KnownBits) (x k : ℕ) → Fits p x → Fits (left_bits p k) (x * 2 ^ k % 2 ^ 64)
left_fits p x k h = record {
  has = within_mod (p.has * 2 ^ k) (x * 2 ^ k) 64 (within_left p.has x k h.has);
  no_others = within_mod (x * 2 ^ k) (p.may_have * 2 ^ k) 64
      (within_left x p.may_have k h.no_others);
}

right_fits : (p : KnownBits) (x k : ℕ) → Fits p x → Fits (right_bits p k) (x / 2 ^ k)
right_fits p x k h = record {
  has = within_right p.has x k h.has;
  no_others = within_right x p.may_have k h.no_others;
}

cut_of_word : (w : Bits) (n : ℕ) → word w (n % 2 ^ 64) ≡ n % 2 ^ bits (word_width w)
cut_of_word Bits64 n = refl
cut_of_word Bits32 n = omega arith

shifted_fits : (w : Bits) (p : KnownBits) (x k : ℕ) → Fits p x
    → Fits (cut_bits w (left_bits p k)) (x * 2 ^ k % 2 ^ bits (word_width w))
shifted_fits w p x k h = subst (Fits (cut_bits w (left_bits p k))) (cut_of_word w (x * 2 ^ k))
    (cut_fits w (left_bits p k) (x * 2 ^ k % 2 ^ 64) (left_fits p x k h))

-- for a single count, or for any
bits_by_count : (b : Interval) (y z : ℕ) (one other : KnownBits) → IsBetween b y
    → (b.lo ≡ y → Fits one z) → Fits other z → Fits (if is_just b then one else other) z
bits_by_count b y z one other h first second = elim (cases_Bool (is_just b)) [
  | inl is ↦ let e : b.lo ≡ y = grind (arith, h, is) in rw is (first e)
  | inr is ↦ rw is second
]

-- ARSH of a number below the sign bit, by a single count
signed_fits : (w : Bits) (a b : Number) (x y : ℕ) → Holds a x → Holds b y
    → IsOf w (arithmetic (word_width w) Arsh x y)
    → Fits (known_bits w Arsh a b) (arithmetic (word_width w) Arsh x y)
signed_fits w a b x y h k fz =
    elim (cases_Bool (is_just b.range && nat_lt a.range.hi (sign_bit w))) [
      | inl is ↦
          let parts = and_parts (is_just b.range) (nat_lt a.range.hi (sign_bit w)) is in
          let count : b.range.lo ≡ y = grind (arith, k.between, parts.0) in
          let low : a.range.hi < sign_bit w = ltb-true a.range.hi (sign_bit w) parts.1 in
          rw (is, arsh_low w x (y % bits (word_width w)) (omega (arith, low, h.between.1)))
          (subst (λ (n : ℕ). Fits (right_bits a.bits (n % bits (word_width w)))
          (x / 2 ^ (y % bits (word_width w)))) (sym count)
          (right_fits a.bits x (y % bits (word_width w)) h.bits))
      | inr is ↦ rw is
          (any_of_fits w (arithmetic (word_width w) Arsh x y) fz)
    ]

-- the machine's result, a number of the class, has the known bits
pub bits_fit : (w : Bits) (op : AluOp) (a b : Number) (x y : ℕ) → Holds a x → Holds b y
    → IsOf w (arithmetic (word_width w) op x y)
    → Fits (known_bits w op a b) (arithmetic (word_width w) op x y)
bits_fit w Or a b x y h k fz = record {
  has = within_or a.bits.has b.bits.has x y h.bits.has k.bits.has;
  no_others = within_or x y a.bits.may_have b.bits.may_have h.bits.no_others k.bits.no_others;
}
bits_fit w And a b x y h k fz = record {
  has = within_and a.bits.has b.bits.has x y h.bits.has k.bits.has;
  no_others = within_and x y a.bits.may_have b.bits.may_have h.bits.no_others k.bits.no_others;
}
bits_fit w Xor a b x y h k fz = xor_fits a.bits b.bits x y h.bits k.bits
bits_fit w Lsh a b x y h k fz =
    bits_by_count b.range y (arithmetic (word_width w) Lsh x y)
    (cut_bits w (left_bits a.bits (count_of w b.range))) (any_of w) k.between
    (λ e. subst (λ (n : ℕ). Fits (cut_bits w (left_bits a.bits (count_of w b.range)))
    (arithmetic (word_width w) Lsh x n)) e
    (shifted_fits w a.bits x (b.range.lo % bits (word_width w)) h.bits))
    (any_of_fits w (arithmetic (word_width w) Lsh x y) fz)
bits_fit w Rsh a b x y h k fz =
    bits_by_count b.range y (arithmetic (word_width w) Rsh x y)
    (right_bits a.bits (count_of w b.range)) (any_of w) k.between
    (λ e. subst (λ (n : ℕ). Fits (right_bits a.bits (count_of w b.range))
    (arithmetic (word_width w) Rsh x n)) e
    (right_fits a.bits x (b.range.lo % bits (word_width w)) h.bits))
    (any_of_fits w (arithmetic (word_width w) Rsh x y) fz)
bits_fit w Arsh a b x y h k fz = signed_fits w a b x y h k fz
bits_fit w Add a b x y h k fz = any_of_fits w (arithmetic (word_width w) Add x y) fz
bits_fit w Sub a b x y h k fz = any_of_fits w (arithmetic (word_width w) Sub x y) fz
bits_fit w Mul a b x y h k fz = any_of_fits w (arithmetic (word_width w) Mul x y) fz
bits_fit w Div a b x y h k fz = any_of_fits w (arithmetic (word_width w) Div x y) fz
bits_fit w Sdiv a b x y h k fz = any_of_fits w (arithmetic (word_width w) Sdiv x y) fz
bits_fit w Mod a b x y h k fz = any_of_fits w (arithmetic (word_width w) Mod x y) fz
bits_fit w Smod a b x y h k fz = any_of_fits w (arithmetic (word_width w) Smod x y) fz
