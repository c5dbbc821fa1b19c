-- Intervals of numbers, by their least and greatest number.
use Rattle.std.specs.Prelude.{ℕ, ◌-◌, ◌%◌, ◌^◌, ◌≤◌, min, max, Bool, nat_le, ◌==◌, if◌then◌else◌}
use Rattle.bpf_insn.specs.declared.operand.Bits.{Bits}
use Rattle.bpf_insn.specs.declared.operand.Bits.TheVariants.{Bits64, Bits32}
use Rattle.abs_value.specs.declared.interval.Interval.{Interval}

abbrev pub interval : ℕ → ℕ → Interval
interval lo hi = record { lo = lo; hi = hi }

-- only n
abbrev pub just : ℕ → Interval
just n = interval n n

abbrev pub is_just : Interval → Bool
is_just a = a.lo == a.hi

-- the greatest number of a class
abbrev pub greatest : Bits → ℕ
greatest Bits64 = 2 ^ 64 - 1
greatest Bits32 = 2 ^ 32 - 1

abbrev pub from_zero : ℕ → Interval
from_zero hi = interval 0 hi

-- all numbers of the class
abbrev pub all_of : Bits → Interval
all_of w = from_zero (greatest w)

-- an interval truncated to a class: a single number to its low half, an interval that exceeds 32
-- bits to all numbers of 32 bits
abbrev pub cut_interval : Bits → Interval → Interval
cut_interval Bits64 a = a
cut_interval Bits32 a =
    if is_just a then just (a.lo % 2 ^ 32)
    else if nat_le a.hi (greatest Bits32) then a
    else all_of Bits32

-- the least interval that contains both
abbrev pub hull : Interval → Interval → Interval
hull a b = interval (min a.lo b.lo) (max a.hi b.hi)

-- the ends are in order
abbrev pub IsRange : Interval → Type 0
IsRange a = a.lo ≤ a.hi
