-- The abstract result includes what the machine computes of two numbers.
use Rattle.std.proofs.Common.{◌≡◌, ℕ, ◌+◌, ◌-◌, ◌%◌, ◌^◌, ◌<◌, ◌≤◌, subst, arith, inl, inr}
use Rattle.std.specs.Prelude.{if◌then◌else◌, bit_and, bit_or}
use Rattle.std.specs.Int.{w64, leading_zeros}
use mir.Val.{bits}
use Rattle.std.proofs.lemmas.Bool.{cases_Bool}
use Rattle.std.proofs.lemmas.Nat.{and_le_l, and_le_r, or_lt, xor_lt}
use Rattle.bpf_insn.specs.declared.operand.AluOp.{AluOp}
use Rattle.bpf_insn.specs.declared.operand.AluOp.TheVariants.{Add, Sub, Mul, Div, Sdiv, Or, And}
use Rattle.bpf_insn.specs.declared.operand.AluOp.TheVariants.{Lsh, Rsh, Mod, Smod, Xor, Arsh}
use Rattle.bpf_insn.specs.declared.operand.Bits.{Bits}
use Rattle.bpf_insn.specs.declared.operand.Bits.TheVariants.{Bits64, Bits32}
use Rattle.bpf_insn.specs.Words.{word_width, word}
use Rattle.bpf_insn.specs.Arithmetic.{arithmetic, alu_result, FitsWidth}
use Rattle.abs_value.specs.declared.interval.Interval.{Interval}
use Rattle.abs_value.specs.declared.number.Number.{Number}
use Rattle.abs_value.specs.Intervals.{is_just, all_of, cut_interval, hull}
use Rattle.abs_value.specs.Bounds.{difference, shifted_left, shifted_right, shifted_signed, bounds}
use Rattle.abs_value.specs.Known.{common, cut_bits}
use Rattle.abs_value.specs.Numbers.{single, are_single, up_to, full, cut, join_numbers}
use Rattle.abs_value.specs.Results.{known_bits, result, alu_number, copied_number}
use Rattle.abs_value.specs.Covers.{Holds, IsBetween, IsWord}
use Rattle.abs_value.proofs.Cuts.{IsOf, word_is_of, cut_interval_holds, all_of_holds}
use Rattle.abs_value.proofs.ShiftedRanges.{fitting_holds, shifted_left_holds, shifted_right_holds}
use Rattle.abs_value.proofs.ShiftedRanges.{shifted_signed_holds, below_power, disjunction_holds}
use Rattle.abs_value.proofs.Within.{within_itself, within_then, and_within}
use Rattle.abs_value.proofs.Within.{and_within_right, within_or_left, within_or_right}
use Rattle.abs_value.proofs.Tidy.{tidied_holds}
use Rattle.abs_value.proofs.BitsHold.{some_of_fits, any_of_fits, cut_fits, bits_fit}
use Rattle.abs_value.proofs.Products.{product_holds, quotient_holds, remainder_holds}

difference_holds : (w : Bits) (a b : Interval) (x y : ℕ) → IsBetween a x → IsBetween b y → IsOf w x
    → IsOf w y
    → IsBetween (difference w a b) (arithmetic (word_width w) Sub x y)
difference_holds Bits64 a b x y h k fits fits2 = grind arith
difference_holds Bits32 a b x y h k fits fits2 = grind arith

word_of : (w : Bits) (x : ℕ) → IsOf w x → IsWord x
word_of Bits64 x h = omega arith
word_of Bits32 x h = omega arith

-- a result is a number of the class
below : (w : Bits) (x : ℕ) → IsOf w x → x < 2 ^ bits (word_width w)
below Bits64 x h = omega (arith, h)
below Bits32 x h = omega (arith, h)

is_of : (w : Bits) (x : ℕ) → x < 2 ^ bits (word_width w) → IsOf w x
is_of Bits64 x h = omega (arith, h)
is_of Bits32 x h = omega (arith, h)

result_is_of : FitsWidth → (w : Bits) (op : AluOp) (x y : ℕ) → IsOf w x → IsOf w y
    → IsOf w (arithmetic (word_width w) op x y)
result_is_of fit w op x y fx fy = is_of w (arithmetic (word_width w) op x y)
    (fit (word_width w) op x y (below w x fx) (below w y fy))

-- for a single count, or for any
by_count : (b : Interval) (y z : ℕ) (one other : Interval) → IsBetween b y
    → (b.lo ≡ y → IsBetween one z)
    → IsBetween other z → IsBetween (if is_just b then one else other) z
by_count b y z one other h first second = elim (cases_Bool (is_just b)) [
  | inl is ↦ let e : b.lo ≡ y = grind (arith, h, is) in rw is (first e)
  | inr is ↦ rw is second
]

bounds_hold : FitsWidth → (w : Bits) (op : AluOp) (a b : Interval) (x y : ℕ)
    → IsBetween a x → IsBetween b y → IsOf w x → IsOf w y
    → IsBetween (bounds w op a b) (arithmetic (word_width w) op x y)
bounds_hold fit w Add a b x y h k fx fy = fitting_holds w (a.lo + b.lo) (a.hi + b.hi) (x + y)
    (omega (arith, h.0, k.0)) (omega (arith, h.1, k.1))
bounds_hold fit w Sub a b x y h k fx fy = difference_holds w a b x y h k fx fy
bounds_hold fit w Mul a b x y h k fx fy = product_holds w a b x y h k
bounds_hold fit w Div a b x y h k fx fy = quotient_holds a b x y h k
bounds_hold fit w Sdiv a b x y h k fx fy =
    all_of_holds w (arithmetic (word_width w) Sdiv x y) (result_is_of fit w Sdiv x y fx fy)
bounds_hold fit w Or a b x y h k fx fy =
    disjunction_holds a b x y (arithmetic (word_width w) Or x y) h k (word_of w x fx)
    (word_of w y fy) (λ n p q. or_lt n x y p q)
bounds_hold fit w And a b x y h k fx fy = grind (arith, and_le_l, and_le_r)
bounds_hold fit w Lsh a b x y h k fx fy =
    by_count b y (arithmetic (word_width w) Lsh x y)
    (shifted_left w a (b.lo % bits (word_width w))) (all_of w) k
    (λ e. subst (λ (n : ℕ). IsBetween (shifted_left w a (b.lo % bits (word_width w)))
    (arithmetic (word_width w) Lsh x n)) e
    (shifted_left_holds w a (b.lo % bits (word_width w)) x h))
    (all_of_holds w (arithmetic (word_width w) Lsh x y) (result_is_of fit w Lsh x y fx fy))
bounds_hold fit w Rsh a b x y h k fx fy =
    by_count b y (arithmetic (word_width w) Rsh x y)
    (shifted_right a (b.lo % bits (word_width w))) (all_of w) k
    (λ e. subst (λ (n : ℕ).
    IsBetween (shifted_right a (b.lo % bits (word_width w))) (arithmetic (word_width w) Rsh x n)) e
    (shifted_right_holds a (b.lo % bits (word_width w)) x h))
    (all_of_holds w (arithmetic (word_width w) Rsh x y) (result_is_of fit w Rsh x y fx fy))
bounds_hold fit w Mod a b x y h k fx fy = remainder_holds a b x y h k
bounds_hold fit w Smod a b x y h k fx fy =
    all_of_holds w (arithmetic (word_width w) Smod x y) (result_is_of fit w Smod x y fx fy)
bounds_hold fit w Xor a b x y h k fx fy =
    disjunction_holds a b x y (arithmetic (word_width w) Xor x y) h k (word_of w x fx)
    (word_of w y fy) (λ n p q. xor_lt n x y p q)
bounds_hold fit w Arsh a b x y h k fx fy =
    by_count b y (arithmetic (word_width w) Arsh x y)
    (shifted_signed w a (b.lo % bits (word_width w))) (all_of w) k
    (λ e. subst (λ (n : ℕ). IsBetween (shifted_signed w a (b.lo % bits (word_width w)))
    (arithmetic (word_width w) Arsh x n)) e
    (shifted_signed_holds w a (b.lo % bits (word_width w)) x h
    (result_is_of fit w Arsh x b.lo fx (omega (arith, k.0, fy)))))
    (all_of_holds w (arithmetic (word_width w) Arsh x y) (result_is_of fit w Arsh x y fx fy))

-- ---- numbers

result_word : FitsWidth → (w : Bits) (op : AluOp) (x y : ℕ) → IsWord x → IsWord y
    → IsWord (alu_result w op x y)
result_word fit w op x y wx wy = word_of w (alu_result w op x y)
    (result_is_of fit w op (word w x) (word w y) (word_is_of w x wx) (word_is_of w y wy))

pub single_holds : (n : ℕ) → IsWord n → Holds (single n) n
single_holds n h = record {
  between = (omega arith, omega arith);
  word = h;
  bits = record { has = within_itself n; no_others = within_itself n };
}

pub up_to_holds : (hi x : ℕ) → IsWord x → x ≤ hi → Holds (up_to hi) x
up_to_holds hi x h le = record {
  between = (omega arith, le);
  word = h;
  bits = some_of_fits (64 - leading_zeros w64 hi) x (below_power hi x le h);
}

pub full_number_holds : (w : Bits) (x : ℕ) → IsOf w x → Holds (full w) x
full_number_holds w x h =
    record { between = all_of_holds w x h; word = word_of w x h; bits = any_of_fits w x h }

cut_number_holds : (w : Bits) (a : Number) (x : ℕ) → Holds a x → Holds (cut w a) (word w x)
cut_number_holds w a x h = record {
  between = cut_interval_holds w a.range x h.between;
  word = word_of w (word w x) (word_is_of w x h.word);
  bits = cut_fits w a.bits x h.bits;
}

pub copied_number_holds : (w : Bits) (a : Number) (x : ℕ) → Holds a x
    → Holds (copied_number w a) (word w x)
copied_number_holds w a x h =
    let cut_a = cut_number_holds w a x h in
    tidied_holds (cut_interval w a.range) (cut_bits w a.bits) (word w x) cut_a.word cut_a.between
    cut_a.bits

result_holds : FitsWidth → (w : Bits) (op : AluOp) (a b : Number) (x y : ℕ)
    → Holds a x → Holds b y → IsOf w x → IsOf w y
    → Holds (result w op a b) (arithmetic (word_width w) op x y)
result_holds fit w op a b x y h k fx fy =
    let of = result_is_of fit w op x y fx fy in
    tidied_holds (bounds w op a.range b.range) (known_bits w op a b)
    (arithmetic (word_width w) op x y) (word_of w (arithmetic (word_width w) op x y) of)
    (bounds_hold fit w op a.range b.range x y h.between k.between fx fy)
    (bits_fit w op a b x y h k of)

pub alu_number_holds : FitsWidth → (w : Bits) (op : AluOp) (a b : Number) (x y : ℕ)
    → Holds a x → Holds b y → Holds (alu_number w op a b) (alu_result w op x y)
alu_number_holds fit w op a b x y h k = elim (cases_Bool (are_single a b)) [
  | inl is ↦
      let first : a.range.lo ≡ x = grind (arith, h.between, is) in
      let second : b.range.lo ≡ y = grind (arith, k.between, is) in
      rw (is, first, second)
      (single_holds (alu_result w op x y) (result_word fit w op x y h.word k.word))
  | inr is ↦ rw is
      (result_holds fit w op (cut w a) (cut w b) (word w x) (word w y) (cut_number_holds w a x h)
      (cut_number_holds w b y k) (word_is_of w x h.word) (word_is_of w y k.word))
]

-- ---- joins

pub join_first : (a b : Number) (x : ℕ) → Holds a x → Holds (join_numbers a b) x
join_first a b x h =
    tidied_holds (hull a.range b.range) (common a.bits b.bits) x h.word
    (omega (arith, h.between.0), omega (arith, h.between.1)) (record {
      has = within_then (bit_and a.bits.has b.bits.has) a.bits.has x
          (and_within a.bits.has b.bits.has) h.bits.has;
      no_others = within_then x a.bits.may_have (bit_or a.bits.may_have b.bits.may_have)
          h.bits.no_others (within_or_left a.bits.may_have b.bits.may_have);
    })

pub join_second : (a b : Number) (x : ℕ) → Holds b x → Holds (join_numbers a b) x
join_second a b x h =
    tidied_holds (hull a.range b.range) (common a.bits b.bits) x h.word
    (omega (arith, h.between.0), omega (arith, h.between.1)) (record {
      has = within_then (bit_and a.bits.has b.bits.has) b.bits.has x
          (and_within_right a.bits.has b.bits.has) h.bits.has;
      no_others = within_then x b.bits.may_have (bit_or a.bits.may_have b.bits.may_have)
          h.bits.no_others (within_or_right a.bits.may_have b.bits.may_have);
    })
