-- An edge that a run takes isn't dropped, and the narrowed numbers on it include those that were
-- compared.
use Rattle.std.proofs.Common.{◌≡◌, ◌≢◌, ℕ, ◌+◌, ◌-◌, ◌<◌, ◌≤◌, min, max, Option, Some}
use Rattle.std.proofs.Common.{Bool, true, false, refl, sym, subst, ◌∙◌, arith, inl, inr}
use Rattle.std.specs.Prelude.{◌⊎◌, nat_lt, nat_le, int_lt, int_le}
use Rattle.std.specs.Prelude.{option_map, ◌==◌, if◌then◌else◌, bit_and}
use Rattle.std.specs.Int.{w32, w64, cast_signed}
use Rattle.std.proofs.lemmas.Bool.{cases_Bool, ltb-true, leb-true, ltb-false, leb-false, not-true}
use Rattle.std.proofs.lemmas.Int.{to_z_pos}
use Rattle.bpf_insn.specs.declared.operand.Bits.{Bits}
use Rattle.bpf_insn.specs.declared.operand.Bits.TheVariants.{Bits64, Bits32}
use Rattle.bpf_insn.specs.declared.operand.Condition.{Condition}
use Rattle.bpf_insn.specs.declared.operand.Condition.TheVariants as jump
use Rattle.bpf_insn.specs.Words.{word_width, word}
use Rattle.bpf_insn.specs.Conditions.{compares, holds}
use Rattle.abs_value.specs.declared.interval.Interval.{Interval}
use Rattle.abs_value.specs.declared.known_bits.KnownBits.{KnownBits}
use Rattle.abs_value.specs.declared.number.Number.{Number}
use Rattle.abs_value.specs.declared.relation.Relation.{Relation}
use Rattle.abs_value.specs.declared.relation.Relation.TheVariants.{Equal, Unequal, Less, AtMost}
use Rattle.abs_value.specs.declared.relation.Relation.TheVariants.{More, AtLeast, Meets, Misses}
use Rattle.abs_value.specs.Intervals.{interval, is_just, greatest}
use Rattle.abs_value.specs.Bounds.{sign_bit}
use Rattle.abs_value.specs.Known.{combined}
use Rattle.abs_value.specs.Numbers.{is_single, are_single, tidy}
use Rattle.abs_value.specs.Narrowing.{IntervalPair, NumberPair, relation, opposite, learnt}
use Rattle.abs_value.specs.Narrowing.{below, at_most, overlap, without, apart_from, swapped, kept}
use Rattle.abs_value.specs.Narrowing.{kept_in, equal, kept_with, with_one_of, without_bits, meeting}
use Rattle.abs_value.specs.Narrowing.{left_by, is_signed, is_comparable, is_taken, narrowed}
use Rattle.abs_value.specs.Covers.{IsWord, IsBetween, Fits, Holds}
use Rattle.abs_value.proofs.Within.{or_within, within_both}
use Rattle.abs_value.proofs.Tidy.{tidy_holds, not_empty}
use Rattle.abs_value.proofs.CommonBits.{one_of_fits, shares_too, without_fits}

-- ---- intervals narrowed by a relation

pub record Leaves (o : Option IntervalPair) (x y : ℕ) : Type 0 where
  pub pair : IntervalPair
  pub is : o ≡ Some pair
  pub first : IsBetween pair.0 x
  pub second : IsBetween pair.1 y

abbrev pub IsRelated : Relation → ℕ → ℕ → Type 0
IsRelated Equal x y = x ≡ y
IsRelated Unequal x y = x ≢ y
IsRelated Less x y = x < y
IsRelated AtMost x y = x ≤ y
IsRelated More x y = y < x
IsRelated AtLeast x y = y ≤ x
IsRelated Meets x y = bit_and x y ≢ 0
IsRelated Misses x y = bit_and x y ≡ 0

at_most_keeps : (a b : Interval) (x y : ℕ) → IsBetween a x → IsBetween b y → x ≤ y
    → Leaves (at_most a b) x y
at_most_keeps a b x y h k le =
    let test : nat_le a.lo b.hi ≡ true = grind arith in
    record {
      pair = (interval a.lo (min a.hi b.hi), interval (max a.lo b.lo) b.hi);
      is = rw test refl;
      first = (omega arith, omega arith);
      second = (omega arith, omega arith);
    }

below_keeps : (a b : Interval) (x y : ℕ) → IsBetween a x → IsBetween b y → x < y
    → Leaves (below a b) x y
below_keeps a b x y h k lt =
    let test : nat_lt a.lo b.hi ≡ true = grind arith in
    record {
      pair = (interval a.lo (min a.hi (b.hi - 1)), interval (max (a.lo + 1) b.lo) b.hi);
      is = rw test refl;
      first = (omega arith, omega arith);
      second = (omega arith, omega arith);
    }

without_holds : (n : ℕ) (a : Interval) (x : ℕ) → IsBetween a x → x ≢ n → IsBetween (without n a) x
without_holds n a x h apart = grind arith

apart_holds : (b a : Interval) (y x : ℕ) → IsBetween b y → IsBetween a x → x ≢ y
    → IsBetween (apart_from b a) x
apart_holds b a y x k h apart = elim (cases_Bool (is_just b)) [
  | inl is ↦ let e : b.lo ≡ y = grind (arith, k, is) in rw (is, e) (without_holds y a x h apart)
  | inr is ↦ rw is h
]

swapped_keeps : (o : Option IntervalPair) (x y : ℕ) → Leaves o y x
    → Leaves (option_map swapped o) x y
swapped_keeps o x y k =
    record { pair = (k.pair.1, k.pair.0); is = rw k.is refl; first = k.second; second = k.first }

-- ---- numbers narrowed by a relation

-- the edge isn't dropped, and the narrowed numbers on it include x and y
pub record Keeps (o : Option NumberPair) (x y : ℕ) : Type 0 where
  pub pair : NumberPair
  pub is : o ≡ Some pair
  pub first : Holds pair.0 x
  pub second : Holds pair.1 y

kept_keeps : (a b : Number) (x y : ℕ) → Holds a x → Holds b y → Keeps (kept a b) x y
kept_keeps a b x y h k =
    let first = not_empty a x h in
    let second = not_empty b y k in
    record { pair = (a, b); is = rw (first, second) refl; first = h; second = k }

kept_in_keeps : (a b : Number) (o : Option IntervalPair) (x y : ℕ) → Holds a x → Holds b y
    → Leaves o x y → Keeps (kept_in a b o) x y
kept_in_keeps a b o x y h k left =
    rw left.is
    (kept_keeps (tidy left.pair.0 a.bits) (tidy left.pair.1 b.bits) x y
    (tidy_holds left.pair.0 a.bits x h.word left.first h.bits)
    (tidy_holds left.pair.1 b.bits y k.word left.second k.bits))

equal_holds : (a b : Number) (x : ℕ) → Holds a x → Holds b x → Holds (equal a b) x
equal_holds a b x h k =
    tidy_holds (overlap a.range b.range) (combined a.bits b.bits) x h.word
    (omega (arith, h.between.0, k.between.0), omega (arith, h.between.1, k.between.1))
    (record {
      has = or_within a.bits.has b.bits.has x h.bits.has k.bits.has;
      no_others = within_both x a.bits.may_have b.bits.may_have h.bits.no_others k.bits.no_others;
    })

kept_with_keeps : (p : KnownBits) (a b : Number) (x y : ℕ) → Holds a x → Holds b y → Fits p x
    → Keeps (kept_with p a b) x y
kept_with_keeps p a b x y h k fits =
    let first = tidy_holds a.range p x h.word h.between fits in
    let some = not_empty (tidy a.range p) x first in
    record { pair = (tidy a.range p, b); is = rw some refl; first = first; second = k }

meeting_keeps : (n : ℕ) (a b : Number) (x y : ℕ) → IsWord n → Holds a x → Holds b y
    → bit_and x n ≢ 0 → Keeps (meeting n a b) x y
meeting_keeps n a b x y wn h k some =
    let possible = shares_too a.bits.may_have n x h.bits.no_others some in
    let test : (bit_and a.bits.may_have n == 0) ≡ false = grind (arith, possible) in
    rw test
    (kept_with_keeps (with_one_of n a.bits) a b x y h k (one_of_fits n x a.bits wn h.bits some))

by_single : (a b : Number) (o : Option NumberPair) (x y : ℕ) → Holds a x → Holds b y
    → (b.range.lo ≡ y → Keeps o x y) → Keeps (if is_single b then o else Some (a, b)) x y
by_single a b o x y h k keeps = elim (cases_Bool (is_single b)) [
  | inl is ↦ let e : b.range.lo ≡ y = grind (arith, k.between, is) in rw is (keeps e)
  | inr is ↦ rw is (record { pair = (a, b); is = refl; first = h; second = k })
]

left_by_keeps : (r : Relation) (a b : Number) (x y : ℕ) → Holds a x → Holds b y → IsRelated r x y
    → Keeps (left_by r a b) x y
left_by_keeps Equal a b x y h k is =
    let one = equal_holds a b x h (subst (Holds b) (sym is) k) in
    kept_keeps (equal a b) (equal a b) x y one (subst (Holds (equal a b)) is one)
left_by_keeps Unequal a b x y h k is =
    kept_in_keeps a b (Some (apart_from b.range a.range, apart_from a.range b.range)) x y h k
    (record {
      pair = (apart_from b.range a.range, apart_from a.range b.range);
      is = refl;
      first = apart_holds b.range a.range y x k.between h.between is;
      second = apart_holds a.range b.range x y h.between k.between (λ e. is (sym e));
    })
left_by_keeps Less a b x y h k is = kept_in_keeps a b (below a.range b.range) x y h k
    (below_keeps a.range b.range x y h.between k.between is)
left_by_keeps AtMost a b x y h k is = kept_in_keeps a b (at_most a.range b.range) x y h k
    (at_most_keeps a.range b.range x y h.between k.between is)
left_by_keeps More a b x y h k is =
    kept_in_keeps a b (option_map swapped (below b.range a.range)) x y h k
    (swapped_keeps (below b.range a.range) x y
    (below_keeps b.range a.range y x k.between h.between is))
left_by_keeps AtLeast a b x y h k is =
    kept_in_keeps a b (option_map swapped (at_most b.range a.range)) x y h k
    (swapped_keeps (at_most b.range a.range) x y
    (at_most_keeps b.range a.range y x k.between h.between is))
left_by_keeps Meets a b x y h k some =
    by_single a b (meeting b.range.lo a b) x y h k (λ e.
    meeting_keeps b.range.lo a b x y (subst IsWord (sym e) k.word) h k
    (subst (λ (n : ℕ). bit_and x n ≢ 0) (sym e) some))
left_by_keeps Misses a b x y h k none =
    by_single a b (kept_with (without_bits b.range.lo a.bits) a b) x y h k (λ e.
    kept_with_keeps (without_bits b.range.lo a.bits) a b x y h k
    (without_fits b.range.lo x a.bits h.word (subst IsWord (sym e) k.word) h.bits
    (subst (λ (n : ℕ). bit_and x n ≡ 0) (sym e) none)))

-- ---- what an edge implies

-- on one side of the sign bit
abbrev pub OnOneSide : Bits → ℕ → ℕ → Type 0
OnOneSide w x y = ((x < sign_bit w) × (y < sign_bit w))
    ⊎ ((sign_bit w ≤ x) × (x ≤ greatest w) × (sign_bit w ≤ y) × (y ≤ greatest w))

abbrev pub IsSided : Bits → Condition → ℕ → ℕ → Type 0
IsSided w c x y = is_signed c ≡ true → OnOneSide w x y

signed_lt : (w : Bits) (x y : ℕ) → OnOneSide w x y
    → int_lt (cast_signed (word_width w) x) (cast_signed (word_width w) y) ≡ nat_lt x y
signed_lt Bits64 x y (inl h) = rw (to_z_pos w64 x h.0, to_z_pos w64 y h.1) refl
signed_lt Bits32 x y (inl h) = rw (to_z_pos w32 x h.0, to_z_pos w32 y h.1) refl
signed_lt Bits64 x y (inr h) = grind arith
signed_lt Bits32 x y (inr h) = grind arith

signed_le : (w : Bits) (x y : ℕ) → OnOneSide w x y
    → int_le (cast_signed (word_width w) x) (cast_signed (word_width w) y) ≡ nat_le x y
signed_le Bits64 x y (inl h) = rw (to_z_pos w64 x h.0, to_z_pos w64 y h.1) refl
signed_le Bits32 x y (inl h) = rw (to_z_pos w32 x h.0, to_z_pos w32 y h.1) refl
signed_le Bits64 x y (inr h) = grind arith
signed_le Bits32 x y (inr h) = grind arith

turned : (w : Bits) (x y : ℕ) → OnOneSide w x y → OnOneSide w y x
turned w x y (inl h) = inl (h.1, h.0)
turned w x y (inr h) = inr (h.2, h.3, h.0, h.1)

true_related : (w : Bits) (c : Condition) (x y : ℕ)
    → IsSided w c x y → compares (word_width w) c x y ≡ true → IsRelated (relation c) x y
true_related w jump.Eq x y s t = grind arith
true_related w jump.Ne x y s t = λ e. grind arith
true_related w jump.Lt x y s t = ltb-true x y t
true_related w jump.Le x y s t = leb-true x y t
true_related w jump.Gt x y s t = ltb-true y x t
true_related w jump.Ge x y s t = leb-true y x t
true_related w jump.Slt x y s t = ltb-true x y (sym (signed_lt w x y (s refl)) ∙ t)
true_related w jump.Sle x y s t = leb-true x y (sym (signed_le w x y (s refl)) ∙ t)
true_related w jump.Sgt x y s t = ltb-true y x (sym (signed_lt w y x (turned w x y (s refl))) ∙ t)
true_related w jump.Sge x y s t = leb-true y x (sym (signed_le w y x (turned w x y (s refl))) ∙ t)
true_related w jump.Set x y s t = λ e. grind (arith, e, t)

false_related : (w : Bits) (c : Condition) (x y : ℕ) → IsSided w c x y
    → compares (word_width w) c x y ≡ false → IsRelated (opposite (relation c)) x y
false_related w jump.Eq x y s t = λ e. grind arith
false_related w jump.Ne x y s t = grind arith
false_related w jump.Lt x y s t = ltb-false x y t
false_related w jump.Le x y s t = leb-false x y t
false_related w jump.Gt x y s t = ltb-false y x t
false_related w jump.Ge x y s t = leb-false y x t
false_related w jump.Slt x y s t = ltb-false x y (sym (signed_lt w x y (s refl)) ∙ t)
false_related w jump.Sle x y s t = leb-false x y (sym (signed_le w x y (s refl)) ∙ t)
false_related w jump.Sgt x y s t = ltb-false y x (sym (signed_lt w y x (turned w x y (s refl))) ∙ t)
false_related w jump.Sge x y s t = leb-false y x (sym (signed_le w y x (turned w x y (s refl))) ∙ t)
false_related w jump.Set x y s t = grind (arith, t)

taken_related : (w : Bits) (c : Condition) (jumps : Bool) (x y : ℕ) → IsSided w c x y
    → is_taken jumps (compares (word_width w) c x y) ≡ true → IsRelated (learnt c jumps) x y
taken_related w c true x y s t = true_related w c x y s t
taken_related w c false x y s t =
    false_related w c x y s (not-true (compares (word_width w) c x y) t)

-- ---- comparable ranges

sided : (w : Bits) (c : Condition) (a b : Interval) (x y : ℕ)
    → IsBetween a x → IsBetween b y → is_comparable w c a b ≡ true → IsSided w c x y
sided w c a b x y h k t s = grind arith

same_word : (w : Bits) (x : ℕ) → x ≤ greatest w → word w x ≡ x
same_word Bits64 x h = refl
same_word Bits32 x h = omega arith

comparable_keeps : (w : Bits) (c : Condition) (jumps : Bool) (a b : Number) (x y : ℕ)
    → Holds a x → Holds b y → is_comparable w c a.range b.range ≡ true
    → is_taken jumps (holds w c x y) ≡ true → Keeps (left_by (learnt c jumps) a b) x y
comparable_keeps w c jumps a b x y h k t taken =
    let first : x ≤ greatest w = grind (arith, h.between) in
    let second : y ≤ greatest w = grind (arith, k.between) in
    let one : word w x ≡ x = same_word w x first in
    let two : word w y ≡ y = same_word w y second in
    let there : is_taken jumps (compares (word_width w) c x y) ≡ true = rw (one, two) at taken in
    left_by_keeps (learnt c jumps) a b x y h k
    (taken_related w c jumps x y (sided w c a.range b.range x y h.between k.between t) there)

pub narrowed_keeps : (w : Bits) (c : Condition) (jumps : Bool) (a b : Number) (x y : ℕ) → Holds a x
    → Holds b y → is_taken jumps (holds w c x y) ≡ true → Keeps (narrowed w c jumps a b) x y
narrowed_keeps w c jumps a b x y h k taken = elim (cases_Bool (are_single a b)) [
  | inl is ↦
      let first : a.range.lo ≡ x = grind (arith, h.between, is) in
      let second : b.range.lo ≡ y = grind (arith, k.between, is) in
      record { pair = (a, b); is = rw (is, first, second, taken) refl; first = h; second = k }
  | inr is ↦ elim (cases_Bool (is_comparable w c a.range b.range)) [
    | inl fits ↦ rw (is, fits) (comparable_keeps w c jumps a b x y h k fits taken)
    | inr fits ↦ record { pair = (a, b); is = rw (is, fits) refl; first = h; second = k }
  ]
]
