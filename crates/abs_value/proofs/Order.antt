-- If the ends of values are in order, so are those of the results.
use Rattle.std.proofs.Common.{◌≡◌, ℕ, ℤ, ◌+◌, ◌-◌, ◌*◌, ◌/◌, ◌%◌, ◌^◌, ◌≤◌}
use Rattle.std.proofs.Common.{Option, Some, None, Bool, true, false, refl, arith, inl, inr}
use Rattle.std.specs.Prelude.{option_map, nat_lt, ◌==◌, ◌||◌, if◌then◌else◌, bit_and}
use mir.Val.{bits}
use Rattle.std.proofs.Math.Nat.{mul-le-mul_right}
use Rattle.std.proofs.lemmas.Bool.{cases_Bool, or_parts}
use Rattle.std.proofs.lemmas.Nat.{mul-le}
use Rattle.bpf_insn.specs.declared.operand.AluOp.{AluOp}
use Rattle.bpf_insn.specs.declared.operand.AluOp.TheVariants.{Add, Sub, Mul, Div, Sdiv, Or, And}
use Rattle.bpf_insn.specs.declared.operand.AluOp.TheVariants.{Lsh, Rsh, Mod, Smod, Xor, Arsh}
use Rattle.bpf_insn.specs.declared.operand.Bits.{Bits}
use Rattle.bpf_insn.specs.declared.operand.Bits.TheVariants.{Bits64, Bits32}
use Rattle.bpf_insn.specs.declared.operand.Condition.{Condition}
use Rattle.bpf_insn.specs.declared.operand.ByteOrder.{ByteOrder}
use Rattle.bpf_insn.specs.declared.operand.EndSize.{EndSize}
use Rattle.bpf_insn.specs.declared.operand.Extension.{Extension}
use Rattle.bpf_insn.specs.declared.operand.LoadKind.{LoadKind}
use Rattle.bpf_insn.specs.declared.operand.LoadKind.TheVariants as load
use Rattle.bpf_insn.specs.Table.{extension_class}
use Rattle.bpf_insn.specs.Words.{word_width}
use Rattle.bpf_insn.specs.Arithmetic.{extended, end_width, reordered}
use Rattle.bpf_insn.specs.Conditions.{holds}
use Rattle.bpf_semantics.specs.declared.helpers.Prototype.{Prototype}
use Rattle.bpf_semantics.specs.declared.helpers.Prototype.TheVariants.{OfMap, OfText, OfNumber}
use Rattle.bpf_semantics.specs.Helpers.{called_prototype}
use Rattle.abs_value.specs.declared.interval.Interval.{Interval}
use Rattle.abs_value.specs.declared.known_bits.KnownBits.{KnownBits}
use Rattle.abs_value.specs.declared.number.Number.{Number}
use Rattle.abs_value.specs.declared.origin.Lookup.{Lookup}
use Rattle.abs_value.specs.declared.origin.Origin.TheVariants.{Found}
use Rattle.abs_value.specs.declared.places.Places.{Places}
use Rattle.abs_value.specs.declared.relation.Relation.{Relation}
use Rattle.abs_value.specs.declared.relation.Relation.TheVariants.{Equal, Unequal, Less, AtMost}
use Rattle.abs_value.specs.declared.relation.Relation.TheVariants.{More, AtLeast, Meets, Misses}
use Rattle.abs_value.specs.declared.value.Abs.{Abs}
use Rattle.abs_value.specs.declared.value.Abs.TheVariants.{Num, Ctx}
use Rattle.abs_value.specs.declared.value.Abs.TheVariants.{Stk, Map, MayCell, Cell}
use Rattle.abs_value.specs.Intervals.{IsRange, is_just, all_of, cut_interval, hull}
use Rattle.abs_value.specs.Bounds.{fitting, quotient, shifted_left, shifted_right}
use Rattle.abs_value.specs.Bounds.{shifted_signed, sign_bit, bounds}
use Rattle.abs_value.specs.Known.{common, cut_bits}
use Rattle.abs_value.specs.Numbers.{single, is_single, are_single, full, up_to, cut, tidy, is_empty}
use Rattle.abs_value.specs.Results.{known_bits, alu_number}
use Rattle.abs_value.specs.Narrowing.{IntervalPair, NumberPair, below, at_most, apart_from, swapped}
use Rattle.abs_value.specs.Narrowing.{kept, kept_in, equal, kept_with, with_one_of, without_bits}
use Rattle.abs_value.specs.Narrowing.{meeting, left_by, learnt, is_taken, is_comparable, narrowed}
use Rattle.abs_value.specs.Values.{moved_in_context, moved_in_stack, or_unusable}
use Rattle.abs_value.specs.Values.{alu_value, copied_value, extended_value, reordered_value}
use Rattle.abs_value.specs.Values.{loaded_value, join_values, refined, numbers}
use Rattle.abs_value.specs.Lookups.{answer_of, with_answer, lookup_value, value_given, call_value}
use Rattle.abs_value.specs.Order.{HasOrderedEnds, AreInOrder}
use Rattle.abs_value.specs.Covers.{IsBetween}
use Rattle.abs_value.proofs.ShiftedRanges.{shifted_right_holds}
use Rattle.abs_value.proofs.Products.{quotient_holds}
use Rattle.abs_value.proofs.Tidy.{some_range, tidied_range}
use Rattle.abs_value.proofs.Moves.{context_in_order}

-- ---- arithmetic

-- one of two ranges
chosen : (b : Bool) (one other : Interval) → IsRange one → IsRange other
    → IsRange (if b then one else other)
chosen true one other h k = h
chosen false one other h k = k

full_range : (w : Bits) → IsRange (all_of w)
full_range w = omega arith

fitting_range : (w : Bits) (lo hi : ℕ) → lo ≤ hi → IsRange (fitting w lo hi)
fitting_range w lo hi h = grind arith

cut_range : (w : Bits) (a : Interval) → IsRange a → IsRange (cut_interval w a)
cut_range Bits64 a h = h
cut_range Bits32 a h = grind arith

right_range : (a : Interval) (count : ℕ) → IsRange a → IsRange (shifted_right a count)
right_range a count h = (shifted_right_holds a count a.hi (h, omega arith)).0

-- a range that contains a number
range_round : (a : Interval) (x : ℕ) → IsBetween a x → IsRange a
range_round a x h = omega (arith, h.0, h.1)

bounds_range : (w : Bits) (op : AluOp) (a b : Interval) → IsRange a → IsRange b
    → IsRange (bounds w op a b)
bounds_range w Add a b h k = fitting_range w (a.lo + b.lo) (a.hi + b.hi) (omega (arith, h, k))
bounds_range w Sub a b h k = grind arith
bounds_range w Mul a b h k =
    fitting_range w (a.lo * b.lo) (a.hi * b.hi) (mul-le a.lo b.lo a.hi b.hi h k)
bounds_range w Div a b h k = range_round (quotient a b) (if b.lo == 0 then 0 else a.lo / b.lo)
    (quotient_holds a b a.lo b.lo (omega arith, h) (omega arith, k))
bounds_range w Sdiv a b h k = full_range w
bounds_range w Or a b h k = omega arith
bounds_range w And a b h k = omega arith
bounds_range w Lsh a b h k =
    chosen (is_just b) (shifted_left w a (b.lo % bits (word_width w))) (all_of w) (fitting_range w
    (a.lo * 2 ^ (b.lo % bits (word_width w))) (a.hi * 2 ^ (b.lo % bits (word_width w)))
    (mul-le-mul_right (2 ^ (b.lo % bits (word_width w))) h)) (full_range w)
bounds_range w Rsh a b h k = chosen (is_just b) (shifted_right a (b.lo % bits (word_width w)))
    (all_of w) (right_range a (b.lo % bits (word_width w)) h) (full_range w)
bounds_range w Mod a b h k = omega arith
bounds_range w Smod a b h k = full_range w
bounds_range w Xor a b h k = omega arith
bounds_range w Arsh a b h k = chosen (is_just b) (shifted_signed w a (b.lo % bits (word_width w)))
    (all_of w) (chosen (nat_lt a.hi (sign_bit w)) (shifted_right a (b.lo % bits (word_width w)))
    (all_of w) (right_range a (b.lo % bits (word_width w)) h) (full_range w)) (full_range w)

chosen_number : (b : Bool) (one other : Number) → IsRange one.range → IsRange other.range
    → IsRange (if b then one else other).range
chosen_number true one other h k = h
chosen_number false one other h k = k

pub alu_range : (w : Bits) (op : AluOp) (a b : Number) → IsRange a.range → IsRange b.range
    → IsRange (alu_number w op a b).range
alu_range w op a b h k = elim (cases_Bool (are_single a b)) [
  | inl is ↦ rw is (omega arith)
  | inr is ↦ rw is (tidied_range (bounds w op (cut w a).range (cut w b).range)
      (known_bits w op (cut w a) (cut w b)) (bounds_range w op (cut w a).range (cut w b).range
      (cut_range w a.range h) (cut_range w b.range k)))
]

pointer_in_order : (op : AluOp) (from : Places) (by : Number) (o : Option Places)
    → moved_in_context op from by ≡ o → from.lo ≤ from.hi → IsRange by.range
    → HasOrderedEnds (or_unusable (option_map Ctx o))
pointer_in_order op from by None e h k = tt
pointer_in_order op from by (Some r) e h k = context_in_order op from r by e h k

stack_in_order : (o : Option ℕ) → HasOrderedEnds (or_unusable (option_map Stk o))
stack_in_order None = tt
stack_in_order (Some n) = tt

pub alu_in_order : (w : Bits) (op : AluOp) (a b : Abs) → HasOrderedEnds a → HasOrderedEnds b
    → HasOrderedEnds (alu_value w op a b)
alu_in_order w op (Num a) (Num b) h k = alu_range w op a b h k
alu_in_order Bits64 op (Ctx from) (Num by) h k =
    pointer_in_order op from by (moved_in_context op from by) refl h k
alu_in_order Bits64 op (Stk place) (Num by) h k = stack_in_order (moved_in_stack op place by)
alu_in_order Bits64 op a b h k = tt
alu_in_order Bits32 op a b h k = tt

pub copied_in_order : (w : Bits) (a : Abs) → HasOrderedEnds a → HasOrderedEnds (copied_value w a)
copied_in_order w (Num a) h =
    tidied_range (cut_interval w a.range) (cut_bits w a.bits) (cut_range w a.range h)
copied_in_order Bits64 a h = h
copied_in_order Bits32 a h = tt

pub extended_in_order : (e : Extension) (a : Abs) → HasOrderedEnds (extended_value e a)
extended_in_order e (Num a) = chosen_number (is_single a) (single (extended e a.range.lo))
    (full (extension_class e)) (omega arith) (full_range (extension_class e))
extended_in_order e a = tt

pub reordered_in_order : (o : ByteOrder) (size : EndSize) (a : Abs)
    → HasOrderedEnds (reordered_value o size a)
reordered_in_order o size (Num a) = chosen_number (is_single a)
    (single (reordered o size a.range.lo))
    (up_to (2 ^ bits (end_width size) - 1)) (omega arith) (omega arith)
reordered_in_order o size a = tt

pub loaded_in_order : (kind : LoadKind) → HasOrderedEnds (loaded_value kind)
loaded_in_order load.Byte = omega arith
loaded_in_order load.Half = omega arith
loaded_in_order load.Word = omega arith
loaded_in_order load.Double = omega arith
loaded_in_order load.SignedByte = omega arith
loaded_in_order load.SignedHalf = omega arith
loaded_in_order load.SignedWord = omega arith

pub join_in_order : (a b : Abs) → HasOrderedEnds a → HasOrderedEnds b
    → HasOrderedEnds (join_values a b)
join_in_order (Num a) (Num b) h k =
    tidied_range (hull a.range b.range) (common a.bits b.bits) (omega (arith, h, k))
join_in_order (Ctx a) (Ctx b) h k = omega (arith, h, k)
join_in_order a b h k = grind arith

-- ---- lookups and calls

answer_in_order : (lookup : Lookup) (found : Bool) → HasOrderedEnds (answer_of lookup found)
answer_in_order lookup true = tt
answer_in_order lookup false = omega arith

chosen_in_order : (b : Bool) (v w : Abs) → HasOrderedEnds v → HasOrderedEnds w
    → HasOrderedEnds (if b then v else w)
chosen_in_order true v w h k = h
chosen_in_order false v w h k = k

pub with_answer_in_order : (call : ℕ) (found : Bool) (v : Abs) → HasOrderedEnds v
    → HasOrderedEnds (with_answer call found v)
with_answer_in_order call found (MayCell lookup) h = chosen_in_order (lookup.slot == call)
    (answer_of lookup found) (MayCell lookup) (answer_in_order lookup found) h
with_answer_in_order call found (Cell (Found lookup)) h = chosen_in_order (lookup.slot == call)
    (answer_of lookup found) (Cell (Found lookup)) (answer_in_order lookup found) h
with_answer_in_order call found v h = h

lookup_in_order : (slot : ℕ) (v : Abs) → HasOrderedEnds (lookup_value slot v)
lookup_in_order slot (Map index) = tt
lookup_in_order slot v = tt

given_in_order : (called : Option Prototype) (slot : ℕ) (v : Abs)
    → HasOrderedEnds (value_given called slot v)
given_in_order None slot v = tt
given_in_order (Some OfMap) slot v = lookup_in_order slot v
given_in_order (Some OfText) slot v = omega arith
given_in_order (Some (OfNumber most)) slot v = omega arith

pub call_in_order : (helper : ℤ) (slot : ℕ) (v : Abs) → HasOrderedEnds (call_value helper slot v)
call_in_order helper slot v = given_in_order (called_prototype helper) slot v

-- ---- narrowing

AreNumbers : Option NumberPair → Type 0
AreNumbers None = Unit {0}
AreNumbers (Some p) = IsRange p.0.range × IsRange p.1.range

chosen_pair : (b : Bool) (one other : Option NumberPair) → AreNumbers one → AreNumbers other
    → AreNumbers (if b then one else other)
chosen_pair true one other h k = h
chosen_pair false one other h k = k

-- the kept numbers aren't empty
kept_ranges : (a b : Number) → AreNumbers (kept a b)
unfolding AreNumbers
kept_ranges a b = elim (cases_Bool (is_empty a || is_empty b)) [
  | inl none ↦ rw none tt
  | inr some ↦
      let parts = or_parts (is_empty a) (is_empty b) some in
      rw some (some_range a parts.0, some_range b parts.1)
]

kept_in_ranges : (a b : Number) (o : Option IntervalPair) → AreNumbers (kept_in a b o)
unfolding AreNumbers
kept_in_ranges a b None = tt
kept_in_ranges a b (Some p) = kept_ranges (tidy p.0 a.bits) (tidy p.1 b.bits)

kept_with_ranges : (p : KnownBits) (a b : Number) → IsRange b.range → AreNumbers (kept_with p a b)
unfolding AreNumbers
kept_with_ranges p a b k = elim (cases_Bool (is_empty (tidy a.range p))) [
  | inl none ↦ rw none tt
  | inr some ↦ rw some (some_range (tidy a.range p) some, k)
]

left_by_ranges : (r : Relation) (a b : Number) → IsRange a.range → IsRange b.range
    → AreNumbers (left_by r a b)
unfolding AreNumbers
left_by_ranges Equal a b h k = kept_ranges (equal a b) (equal a b)
left_by_ranges Unequal a b h k =
    kept_in_ranges a b (Some (apart_from b.range a.range, apart_from a.range b.range))
left_by_ranges Less a b h k = kept_in_ranges a b (below a.range b.range)
left_by_ranges AtMost a b h k = kept_in_ranges a b (at_most a.range b.range)
left_by_ranges More a b h k = kept_in_ranges a b (option_map swapped (below b.range a.range))
left_by_ranges AtLeast a b h k = kept_in_ranges a b (option_map swapped (at_most b.range a.range))
left_by_ranges Meets a b h k = chosen_pair (is_single b) (meeting b.range.lo a b) (Some (a, b))
    (chosen_pair (bit_and a.bits.may_have b.range.lo == 0) None
    (kept_with (with_one_of b.range.lo a.bits) a b) tt
    (kept_with_ranges (with_one_of b.range.lo a.bits) a b k)) (h, k)
left_by_ranges Misses a b h k = chosen_pair (is_single b)
    (kept_with (without_bits b.range.lo a.bits) a b) (Some (a, b))
    (kept_with_ranges (without_bits b.range.lo a.bits) a b k) (h, k)

narrowed_ranges : (w : Bits) (c : Condition) (jumps : Bool) (a b : Number)
    → IsRange a.range → IsRange b.range → AreNumbers (narrowed w c jumps a b)
unfolding AreNumbers
narrowed_ranges w c jumps a b h k =
    let left = left_by (learnt c jumps) a b in
    chosen_pair (are_single a b)
    (if is_taken jumps (holds w c a.range.lo b.range.lo) then Some (a, b) else None)
    (if is_comparable w c a.range b.range then left else Some (a, b))
    (chosen_pair (is_taken jumps (holds w c a.range.lo b.range.lo)) (Some (a, b)) None (h, k) tt)
    (chosen_pair (is_comparable w c a.range b.range) left (Some (a, b))
    (left_by_ranges (learnt c jumps) a b h k) (h, k))

numbers_in_order : (o : Option NumberPair) → AreNumbers o → AreInOrder (option_map numbers o)
unfolding AreNumbers
numbers_in_order None h = tt
numbers_in_order (Some p) h = h

pub refined_in_order : (w : Bits) (c : Condition) (jumps : Bool) (a b : Abs)
    → HasOrderedEnds a → HasOrderedEnds b → AreInOrder (refined w c jumps a b)
refined_in_order w c jumps (Num a) (Num b) h k =
    numbers_in_order (narrowed w c jumps a b) (narrowed_ranges w c jumps a b h k)
refined_in_order w c jumps a b h k = (h, k)
