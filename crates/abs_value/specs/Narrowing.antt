-- Narrowing of the two numbers that a conditional jump compares (RFC 9669, "Jump Instructions"):
-- its condition holds on the edge that jumps, and doesn't on the fall-through edge.
use Rattle.std.specs.Prelude.{ℕ, ◌+◌, ◌-◌, min, max, Option, Some, None, option_map, Bool, true}
use Rattle.std.specs.Prelude.{false, ◌&&◌, ◌||◌, not, nat_lt, nat_le, ◌==◌, if◌then◌else◌}
use Rattle.std.specs.Prelude.{bit_and, bit_or}
use Rattle.std.specs.Int.{w64, bit_not}
use Rattle.bpf_insn.specs.declared.operand.Bits.{Bits}
use Rattle.bpf_insn.specs.declared.operand.Condition.{Condition}
use Rattle.bpf_insn.specs.declared.operand.Condition.TheVariants as jump
use Rattle.bpf_insn.specs.Conditions.{holds}
use Rattle.abs_value.specs.declared.interval.Interval.{Interval}
use Rattle.abs_value.specs.declared.known_bits.KnownBits.{KnownBits}
use Rattle.abs_value.specs.declared.number.Number.{Number}
use Rattle.abs_value.specs.declared.relation.Relation.{Relation}
use Rattle.abs_value.specs.declared.relation.Relation.TheVariants.{Equal, Unequal, Less, AtMost}
use Rattle.abs_value.specs.declared.relation.Relation.TheVariants.{More, AtLeast, Meets, Misses}
use Rattle.abs_value.specs.Intervals.{interval, is_just, greatest}
use Rattle.abs_value.specs.Bounds.{sign_bit}
use Rattle.abs_value.specs.Known.{known, combined}
use Rattle.abs_value.specs.Numbers.{tidy, is_empty, is_single, are_single, least}

-- ---- the relation that an edge implies

-- the relation of two numbers for which the condition holds; Meets means a common bit
abbrev pub relation : Condition → Relation
relation jump.Eq = Equal
relation jump.Ne = Unequal
relation jump.Lt = Less
relation jump.Slt = Less
relation jump.Le = AtMost
relation jump.Sle = AtMost
relation jump.Gt = More
relation jump.Sgt = More
relation jump.Ge = AtLeast
relation jump.Sge = AtLeast
relation jump.Set = Meets

abbrev pub opposite : Relation → Relation
opposite Equal = Unequal
opposite Unequal = Equal
opposite Less = AtLeast
opposite AtMost = More
opposite More = AtMost
opposite AtLeast = Less
opposite Meets = Misses
opposite Misses = Meets

abbrev pub learnt : Condition → Bool → Relation
learnt condition true = relation condition
learnt condition false = opposite (relation condition)

-- ---- two intervals narrowed by a relation; none if one would be empty

abbrev pub IntervalPair : Type 0
IntervalPair = Interval × Interval

-- a is below b
abbrev pub below : Interval → Interval → Option IntervalPair
below a b =
    if nat_lt a.lo b.hi
    then Some (interval a.lo (min a.hi (b.hi - 1)), interval (max (a.lo + 1) b.lo) b.hi)
    else None

-- a is at most b
abbrev pub at_most : Interval → Interval → Option IntervalPair
at_most a b =
    if nat_le a.lo b.hi
    then Some (interval a.lo (min a.hi b.hi), interval (max a.lo b.lo) b.hi)
    else None

-- the intersection
abbrev pub overlap : Interval → Interval → Interval
overlap a b = interval (max a.lo b.lo) (min a.hi b.hi)

-- an end that is n moves in by one; a single number stays
abbrev pub without : ℕ → Interval → Interval
without n a =
    if nat_lt a.lo a.hi
    then interval (if a.lo == n then a.lo + 1 else a.lo) (if a.hi == n then a.hi - 1 else a.hi)
    else a

-- without b, if b is a single number
abbrev pub apart_from : Interval → Interval → Interval
apart_from b a = if is_just b then without b.lo a else a

abbrev pub swapped : IntervalPair → IntervalPair
swapped p = (p.1, p.0)

-- ---- two numbers narrowed by a relation; none if one is found empty

abbrev pub NumberPair : Type 0
NumberPair = Number × Number

abbrev pub kept : Number → Number → Option NumberPair
kept a b = if is_empty a || is_empty b then None else Some (a, b)

-- with narrowed intervals, and the bits that are known
abbrev pub kept_in : Number → Number → Option IntervalPair → Option NumberPair
kept_in a b None = None
kept_in a b (Some p) = kept (tidy p.0 a.bits) (tidy p.1 b.bits)

-- equal numbers have what either side knows
abbrev pub equal : Number → Number → Number
equal a b = tidy (overlap a.range b.range) (combined a.bits b.bits)

-- the first with other bits, and the second unchanged
abbrev pub kept_with : KnownBits → Number → Number → Option NumberPair
kept_with p a b = if is_empty (tidy a.range p) then None else Some (tidy a.range p, b)

-- n has at most one bit that is set
abbrev pub is_one_bit : ℕ → Bool
is_one_bit n = bit_and n (n - 1) == 0

-- the number has at least one bit of n; if n is one bit, it is set
abbrev pub with_one_of : ℕ → KnownBits → KnownBits
with_one_of n p = if is_one_bit n then known (bit_or p.has n) p.may_have else p

-- the number has no bit of n
abbrev pub without_bits : ℕ → KnownBits → KnownBits
without_bits n p = known p.has (bit_and p.may_have (bit_not w64 n))

-- the first has a bit of n
abbrev pub meeting : ℕ → Number → Number → Option NumberPair
meeting n a b =
    if bit_and a.bits.may_have n == 0 then None else kept_with (with_one_of n a.bits) a b

abbrev pub left_by : Relation → Number → Number → Option NumberPair
left_by Equal a b = kept (equal a b) (equal a b)
left_by Unequal a b =
    kept_in a b (Some (apart_from b.range a.range, apart_from a.range b.range))
left_by Less a b = kept_in a b (below a.range b.range)
left_by AtMost a b = kept_in a b (at_most a.range b.range)
left_by More a b = kept_in a b (option_map swapped (below b.range a.range))
left_by AtLeast a b = kept_in a b (option_map swapped (at_most b.range a.range))
-- a single second operand narrows the bits of the first
left_by Meets a b = if is_single b then meeting (least b) a b else Some (a, b)
left_by Misses a b =
    if is_single b then kept_with (without_bits (least b) a.bits) a b else Some (a, b)

-- ---- when intervals have the order of the comparison

abbrev pub is_signed : Condition → Bool
is_signed jump.Slt = true
is_signed jump.Sle = true
is_signed jump.Sgt = true
is_signed jump.Sge = true
is_signed condition = false

-- both below the sign bit, or both from it on
abbrev pub on_one_side : Bits → Interval → Interval → Bool
on_one_side w a b =
    (nat_lt a.hi (sign_bit w) && nat_lt b.hi (sign_bit w))
    || (nat_le (sign_bit w) a.lo && nat_le (sign_bit w) b.lo)

-- both are numbers of the class, and a signed comparison orders them as the unsigned one does
abbrev pub is_comparable : Bits → Condition → Interval → Interval → Bool
is_comparable w condition a b =
    nat_le a.hi (greatest w) && nat_le b.hi (greatest w)
    && (not (is_signed condition) || on_one_side w a b)

-- ---- narrowing on an edge

-- a run takes the edge that jumps if the condition holds, and otherwise the fall-through edge
abbrev pub is_taken : Bool → Bool → Bool
is_taken true answer = answer
is_taken false answer = not answer

-- two single numbers decide the condition
abbrev pub narrowed : Bits → Condition → Bool → Number → Number → Option NumberPair
narrowed w condition jumps a b =
    if are_single a b
    then (if is_taken jumps (holds w condition (least a) (least b)) then Some (a, b) else None)
    else if is_comparable w condition a.range b.range
    then left_by (learnt condition jumps) a b
    else Some (a, b)
