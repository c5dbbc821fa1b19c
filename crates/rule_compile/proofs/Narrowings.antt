-- What is known of a register, and how a comparison narrows two numbers whose ends are in order.
use Rattle.std.proofs.Common.{◌≡◌, ℕ, ◌≤◌, Option, Some, None}
use Rattle.std.proofs.Common.{Bool, true, false, refl, subst, arith, inl, inr}
use Rattle.std.specs.Prelude.{◌==◌, ◌||◌, nat_le, nat_lt, option_map, if◌then◌else◌, bit_and}
use Rattle.std.proofs.lemmas.Bool.{cases_Bool, or_parts}
use Rattle.bpf_insn.specs.declared.operand.Bits.{Bits}
use Rattle.bpf_insn.specs.declared.operand.Condition.{Condition}
use Rattle.bpf_insn.specs.Conditions.{holds}
use Rattle.abs_value.specs.declared.interval.Interval.{Interval}
use Rattle.abs_value.specs.declared.known_bits.KnownBits.{KnownBits}
use Rattle.abs_value.specs.declared.number.Number.{Number}
use Rattle.abs_value.specs.declared.places.Places.{Places}
use Rattle.abs_value.specs.declared.relation.Relation.{Relation}
use Rattle.abs_value.specs.declared.relation.Relation.TheVariants.{Equal, Unequal, Less}
use Rattle.abs_value.specs.declared.relation.Relation.TheVariants.{AtMost, More, AtLeast}
use Rattle.abs_value.specs.declared.relation.Relation.TheVariants.{Meets, Misses}
use Rattle.abs_value.specs.declared.value.Abs.{Abs}
use Rattle.abs_value.specs.declared.value.Abs.TheVariants.{Num, Ctx}
use Rattle.abs_value.specs.declared.state.AbsState.{AbsState}
use Rattle.abs_value.specs.Known.{combined}
use Rattle.abs_value.specs.Numbers.{least, most, is_single, are_single, tidy, is_empty, tidied}
use Rattle.abs_value.specs.Narrowing.{IntervalPair, NumberPair, learnt, below, at_most}
use Rattle.abs_value.specs.Narrowing.{overlap, apart_from, swapped, kept, kept_in, equal}
use Rattle.abs_value.specs.Narrowing.{kept_with, with_one_of, without_bits, meeting}
use Rattle.abs_value.specs.Narrowing.{left_by, is_comparable, is_taken, narrowed}
use Rattle.abs_value.specs.States.{register_at, value_at}
use Rattle.bpf_verify.specs.Table.{SlotFacts, LiesIn, IsWider, HasFacts}

-- ---- what is known of a register

pub wider_at : (d : SlotFacts) (e : AbsState) (r : ℕ) (v : Abs) → HasFacts d e
    → register_at d.registers r ≡ v → IsWider v (value_at e r)
wider_at d e r v h is = subst (λ (x : Abs). IsWider x (value_at e r)) is (h.each r)

pub context_in : (c : Places) (v : Abs) → IsWider (Ctx c) v → (a : Places) × (v ≡ Ctx a)
    × LiesIn c.lo c.hi a.lo a.hi
context_in c (Ctx a) h = (a, refl, h)
context_in c v h = absurd cc

pub number_in : (c : Number) (v : Abs) → IsWider (Num c) v → (a : Number) × (v ≡ Num a)
    × LiesIn (least c) (most c) (least a) (most a)
number_in c (Num a) h = (a, refl, h)
number_in c v h = absurd cc

pub le_of : (m n : ℕ) → nat_le m n ≡ true → m ≤ n
le_of m n h = grind (arith, h)

-- ---- tidy: an end of an interval stays or moves inward

some_order : (a : Number) → is_empty a ≡ false → least a ≤ most a
some_order a some = grind (arith, some)

moved_in : (a : Interval) (p : KnownBits) → (a.lo ≤ least (tidy a p)) × (most (tidy a p) ≤ a.hi)
unfolding tidy
moved_in a p = (omega arith, omega arith)

pub tidied_lies : (from to : ℕ) (a : Interval) (p : KnownBits) → LiesIn from to a.lo a.hi
    → LiesIn from to (least (tidied a p)) (most (tidied a p))
unfolding tidied
tidied_lies from to a p h = elim (cases_Bool (is_empty (tidy a p))) [
  | inl none ↦ rw none h
  | inr some ↦
      let order = some_order (tidy a p) some in
      let ends = moved_in a p in
      rw some (omega (arith, h.0, ends.0), order, omega (arith, h.2, ends.1))
]

-- ---- how a comparison narrows two numbers whose ends are in order

pub record IsNarrower (a b : Number) (p : NumberPair) : Type 0 where
  pub ordered : least p.0 ≤ most p.0
  pub within : most p.0 ≤ most a
  pub ordered_too : least p.1 ≤ most p.1
  pub within_too : most p.1 ≤ most b

same_numbers : (a b : Number) (p : NumberPair) → least a ≤ most a → least b ≤ most b
    → Some (a, b) ≡ Some p → IsNarrower a b p
same_numbers a b p h g is =
    let same : (a, b) ≡ p = cc in
    subst (IsNarrower a b) same
    (record { ordered = h; within = omega arith; ordered_too = g; within_too = omega arith })

narrow_if : (t : Bool) (a b : Number) (x p : NumberPair) → (t ≡ false → IsNarrower a b x)
    → (if t then None else Some x) ≡ Some p → IsNarrower a b p
narrow_if true a b x p h is = absurd cc
narrow_if false a b x p h is = let same : x ≡ p = cc in subst (IsNarrower a b) same (h refl)

-- a kept number isn't empty, so its ends are in order
kept_narrow : (a b x y : Number) (p : NumberPair) → most x ≤ most a → most y ≤ most b
    → kept x y ≡ Some p → IsNarrower a b p
kept_narrow a b x y p h g is = narrow_if (is_empty x || is_empty y) a b (x, y) p (λ some.
    let parts = or_parts (is_empty x) (is_empty y) some in
    record {
      ordered = some_order x parts.0;
      within = h;
      ordered_too = some_order y parts.1;
      within_too = g;
    }) is

-- the upper ends don't grow
AreLower : Interval → Interval → Option IntervalPair → Type 0
AreLower a b None = Unit {0}
AreLower a b (Some p) = (p.0.hi ≤ a.hi) × (p.1.hi ≤ b.hi)

kept_in_narrow : (a b : Number) (o : Option IntervalPair) (p : NumberPair)
    → AreLower a.range b.range o → kept_in a b o ≡ Some p → IsNarrower a b p
unfolding AreLower
kept_in_narrow a b None p h is = absurd cc
kept_in_narrow a b (Some q) p h is =
    let first = moved_in q.0 a.bits in
    let second = moved_in q.1 b.bits in
    kept_narrow a b (tidy q.0 a.bits) (tidy q.1 b.bits) p (omega (arith, first.1, h.0))
    (omega (arith, second.1, h.1)) is

kept_with_narrow : (q : KnownBits) (a b : Number) (p : NumberPair) → least b ≤ most b
    → kept_with q a b ≡ Some p → IsNarrower a b p
kept_with_narrow q a b p g is = narrow_if (is_empty (tidy a.range q)) a b (tidy a.range q, b) p
    (λ some.
    let ends = moved_in a.range q in
    record {
      ordered = some_order (tidy a.range q) some;
      within = ends.1;
      ordered_too = g;
      within_too = omega arith;
    }) is

apart_lower : (b a : Interval) → (apart_from b a).hi ≤ a.hi
apart_lower b a = grind arith

below_lower : (a b : Interval) → AreLower a b (below a b)
unfolding AreLower
below_lower a b = elim (cases_Bool (nat_lt a.lo b.hi)) [
  | inl is ↦ rw is (omega arith, omega arith)
  | inr is ↦ rw is tt
]

at_most_lower : (a b : Interval) → AreLower a b (at_most a b)
unfolding AreLower
at_most_lower a b = elim (cases_Bool (nat_le a.lo b.hi)) [
  | inl is ↦ rw is (omega arith, omega arith)
  | inr is ↦ rw is tt
]

swapped_lower : (a b : Interval) (o : Option IntervalPair) → AreLower b a o
    → AreLower a b (option_map swapped o)
unfolding AreLower
swapped_lower a b None h = tt
swapped_lower a b (Some q) h = (h.1, h.0)

equal_narrow : (a b : Number) (p : NumberPair) → kept (equal a b) (equal a b) ≡ Some p
    → IsNarrower a b p
equal_narrow a b p is =
    let ends = moved_in (overlap a.range b.range) (combined a.bits b.bits) in
    kept_narrow a b (equal a b) (equal a b) p (omega (arith, ends.1)) (omega (arith, ends.1)) is

by_test : (t : Bool) (o other : Option NumberPair) (P : NumberPair → Type 0) (p : NumberPair)
    → (o ≡ Some p → P p) → (other ≡ Some p → P p) → (if t then o else other) ≡ Some p → P p
by_test true o other P p h g is = h is
by_test false o other P p h g is = g is

meeting_narrow : (n : ℕ) (a b : Number) (p : NumberPair) → least b ≤ most b
    → meeting n a b ≡ Some p → IsNarrower a b p
meeting_narrow n a b p g is = by_test (bit_and a.bits.may_have n == 0) None
    (kept_with (with_one_of n a.bits) a b) (IsNarrower a b) p (λ e. absurd cc)
    (kept_with_narrow (with_one_of n a.bits) a b p g) is

left_narrow : (r : Relation) (a b : Number) (p : NumberPair) → least a ≤ most a
    → least b ≤ most b → left_by r a b ≡ Some p → IsNarrower a b p
unfolding AreLower
left_narrow Equal a b p h g is = equal_narrow a b p is
left_narrow Unequal a b p h g is =
    kept_in_narrow a b (Some (apart_from b.range a.range, apart_from a.range b.range)) p
    (apart_lower b.range a.range, apart_lower a.range b.range) is
left_narrow Less a b p h g is =
    kept_in_narrow a b (below a.range b.range) p (below_lower a.range b.range) is
left_narrow AtMost a b p h g is =
    kept_in_narrow a b (at_most a.range b.range) p (at_most_lower a.range b.range) is
left_narrow More a b p h g is =
    kept_in_narrow a b (option_map swapped (below b.range a.range)) p
    (swapped_lower a.range b.range (below b.range a.range) (below_lower b.range a.range)) is
left_narrow AtLeast a b p h g is =
    kept_in_narrow a b (option_map swapped (at_most b.range a.range)) p
    (swapped_lower a.range b.range (at_most b.range a.range) (at_most_lower b.range a.range)) is
left_narrow Meets a b p h g is = by_test (is_single b) (meeting (least b) a b) (Some (a, b))
    (IsNarrower a b) p (meeting_narrow (least b) a b p g) (same_numbers a b p h g) is
left_narrow Misses a b p h g is =
    by_test (is_single b) (kept_with (without_bits (least b) a.bits) a b) (Some (a, b))
    (IsNarrower a b) p (kept_with_narrow (without_bits (least b) a.bits) a b p g)
    (same_numbers a b p h g) is

pub narrowed_narrow : (w : Bits) (condition : Condition) (jumps : Bool) (a b : Number)
    (p : NumberPair)
    → least a ≤ most a → least b ≤ most b → narrowed w condition jumps a b ≡ Some p
    → IsNarrower a b p
narrowed_narrow w condition jumps a b p h g is =
    let left = left_by (learnt condition jumps) a b in
    by_test (are_single a b)
    (if is_taken jumps (holds w condition (least a) (least b)) then Some (a, b) else None)
    (if is_comparable w condition a.range b.range then left else Some (a, b)) (IsNarrower a b) p
    (by_test (is_taken jumps (holds w condition (least a) (least b))) (Some (a, b)) None
    (IsNarrower a b) p (same_numbers a b p h g) (λ e. absurd cc))
    (by_test (is_comparable w condition a.range b.range) left (Some (a, b)) (IsNarrower a b) p
    (left_narrow (learnt condition jumps) a b p h g) (same_numbers a b p h g)) is
