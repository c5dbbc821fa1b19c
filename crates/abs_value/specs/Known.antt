-- The known bits of a number (a tnum): the bits that are 1, and those that may be 1. A bit that may
-- be 1 and needn't be is unknown.
use Rattle.std.specs.Prelude.{ℕ, ◌-◌, ◌*◌, ◌/◌, ◌%◌, ◌^◌, Bool, ◌==◌, bit_and, bit_or, bit_xor}
use Rattle.std.specs.Int.{w64, bit_not}
use Rattle.bpf_insn.specs.declared.operand.Bits.{Bits}
use Rattle.bpf_insn.specs.declared.operand.Bits.TheVariants.{Bits64, Bits32}
use Rattle.abs_value.specs.declared.interval.Interval.{Interval}
use Rattle.abs_value.specs.declared.known_bits.KnownBits.{KnownBits}
use Rattle.abs_value.specs.Intervals.{greatest}
use Rattle.abs_value.specs.Bounds.{power_above}

abbrev pub known : ℕ → ℕ → KnownBits
known has may_have = record { has = has; may_have = may_have }

-- all bits are known to be those of n
abbrev pub exactly : ℕ → KnownBits
exactly n = known n n

-- no bits except some of these
abbrev pub some_of : ℕ → KnownBits
some_of bits = known 0 bits

-- any bits of the class
abbrev pub any_of : Bits → KnownBits
any_of w = some_of (greatest w)

-- no bit is known to be both 1 and 0
abbrev pub is_consistent : KnownBits → Bool
is_consistent p = bit_and p.has p.may_have == p.has

-- the bits that p or q knows
abbrev pub combined : KnownBits → KnownBits → KnownBits
combined p q = known (bit_or p.has q.has) (bit_and p.may_have q.may_have)

-- the bits that both know to be the same
abbrev pub common : KnownBits → KnownBits → KnownBits
common p q = known (bit_and p.has q.has) (bit_or p.may_have q.may_have)

-- ---- the known bits of operations

-- AND: a bit is 1 if both have it, and 0 if either hasn't
abbrev pub and_bits : KnownBits → KnownBits → KnownBits
and_bits p q = known (bit_and p.has q.has) (bit_and p.may_have q.may_have)

-- OR: a bit is 1 if either has it, and 0 if neither has
abbrev pub or_bits : KnownBits → KnownBits → KnownBits
or_bits p q = known (bit_or p.has q.has) (bit_or p.may_have q.may_have)

-- the mask of unknown bits
abbrev pub unknown : KnownBits → ℕ
unknown p = bit_xor p.has p.may_have

-- these bits, except those of u, which are unknown
abbrev pub but_for : ℕ → ℕ → KnownBits
but_for u bits = known (bit_xor (bit_or bits u) u) (bit_or bits u)

-- XOR: a bit is known if both operands know it
abbrev pub xor_bits : KnownBits → KnownBits → KnownBits
xor_bits p q = but_for (bit_or (unknown p) (unknown q)) (bit_xor p.has q.has)

-- LSH and RSH: the bits that are shifted in are 0
abbrev pub left_bits : KnownBits → ℕ → KnownBits
left_bits p count = known (p.has * 2 ^ count % 2 ^ 64) (p.may_have * 2 ^ count % 2 ^ 64)

abbrev pub right_bits : KnownBits → ℕ → KnownBits
right_bits p count = known (p.has / 2 ^ count) (p.may_have / 2 ^ count)

-- truncated to the class: with 32 bits, the upper half is 0
abbrev pub cut_bits : Bits → KnownBits → KnownBits
cut_bits Bits64 p = p
cut_bits Bits32 p = known (p.has % 2 ^ 32) (p.may_have % 2 ^ 32)

-- ---- the bits that an interval implies

-- all bits up to the highest one in which the ends differ
abbrev pub differing : Interval → ℕ
differing a = power_above (bit_xor a.lo a.hi) - 1

-- above these, all numbers of the interval have the same bits
abbrev pub shared : Interval → KnownBits
shared a = known (bit_and a.lo (bit_not w64 (differing a))) (bit_or a.lo (differing a))
