-- Abstract numbers: an interval and known bits, which tighten each other.
use Rattle.std.specs.Prelude.{ℕ, ◌-◌, min, max, Bool, ◌&&◌, ◌||◌, not, ◌==◌, nat_lt, nat_le}
use Rattle.std.specs.Prelude.{if◌then◌else◌}
use Rattle.bpf_insn.specs.declared.operand.Bits.{Bits}
use Rattle.abs_value.specs.declared.interval.Interval.{Interval}
use Rattle.abs_value.specs.declared.known_bits.KnownBits.{KnownBits}
use Rattle.abs_value.specs.declared.number.Number.{Number}
use Rattle.abs_value.specs.Intervals.{interval, just, is_just, from_zero}
use Rattle.abs_value.specs.Intervals.{all_of, cut_interval, hull}
use Rattle.abs_value.specs.Bounds.{power_above}
use Rattle.abs_value.specs.Known.{exactly, some_of, any_of, is_consistent, combined, common}
use Rattle.abs_value.specs.Known.{cut_bits, shared}

abbrev pub number : Interval → KnownBits → Number
number range bits = record { range = range; bits = bits }

abbrev pub single : ℕ → Number
single n = number (just n) (exactly n)

-- no bits above those of hi
abbrev pub up_to : ℕ → Number
up_to hi = number (from_zero hi) (some_of (power_above hi - 1))

-- any number of the class
abbrev pub full : Bits → Number
full w = number (all_of w) (any_of w)

-- truncated to the class
abbrev pub cut : Bits → Number → Number
cut w a = number (cut_interval w a.range) (cut_bits w a.bits)

-- ---- the interval and the bits tighten each other

-- no number is below the bits that are 1, or above those that may be 1
abbrev pub trimmed : Interval → KnownBits → Interval
trimmed a p = interval (max a.lo p.has) (min a.hi p.may_have)

abbrev pub with_shared : Interval → KnownBits → Number
with_shared a p = number a (combined p (shared a))

-- once: the ends move in to the bits, and then the bits that the interval shares become known
unfoldable pub tidy : Interval → KnownBits → Number
tidy a p = with_shared (trimmed a p) p

-- found empty: the ends are out of order, or a bit is known to be both 1 and 0
abbrev pub is_empty : Number → Bool
is_empty a = nat_lt a.range.hi a.range.lo || not (is_consistent a.bits)

-- a result: if tidy finds it empty, it stays as it was computed
unfoldable pub tidied : Interval → KnownBits → Number
tidied a p = if is_empty (tidy a p) then number a p else tidy a p

-- the same range with the same bits
abbrev pub is_same : Number → Number → Bool
is_same a b =
    (a.range.lo == b.range.lo) && (a.range.hi == b.range.hi)
    && (a.bits.has == b.bits.has) && (a.bits.may_have == b.bits.may_have)

-- the join
abbrev pub join_numbers : Number → Number → Number
join_numbers a b = tidied (hull a.range b.range) (common a.bits b.bits)

-- ---- tests

-- the least and the greatest number
abbrev pub least : Number → ℕ
least a = a.range.lo

abbrev pub most : Number → ℕ
most a = a.range.hi

-- only one number
abbrev pub is_single : Number → Bool
is_single a = is_just a.range

abbrev pub are_single : Number → Number → Bool
are_single a b = is_single a && is_single b

-- only n
abbrev pub is_only : Number → ℕ → Bool
is_only a n = (least a == n) && (most a == n)

abbrev pub is_at_most : Number → ℕ → Bool
is_at_most a n = nat_le (most a) n
