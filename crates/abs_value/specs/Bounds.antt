-- Interval arithmetic (RFC 9669, "Arithmetic Instructions"): one formula for each operation, over
-- the numbers of a class.
use Rattle.std.specs.Prelude.{ℕ, ◌+◌, ◌-◌, ◌*◌, ◌/◌, ◌%◌, ◌^◌, min, max, ◌&&◌, nat_lt, nat_le}
use Rattle.std.specs.Prelude.{Bool, if◌then◌else◌}
use Rattle.std.specs.Int.{w64, leading_zeros}
use mir.Val.{bits}
use Rattle.bpf_insn.specs.declared.operand.AluOp.{AluOp}
use Rattle.bpf_insn.specs.declared.operand.AluOp.TheVariants.{Add, Sub, Or, And, Lsh, Rsh, Xor}
use Rattle.bpf_insn.specs.declared.operand.AluOp.TheVariants.{Mul, Div, Sdiv, Mod, Smod, Arsh}
use Rattle.bpf_insn.specs.declared.operand.Bits.{Bits}
use Rattle.bpf_insn.specs.Words.{word_width}
use Rattle.abs_value.specs.declared.interval.Interval.{Interval}
use Rattle.abs_value.specs.Intervals.{interval, is_just, greatest, from_zero, all_of}

-- from lo to hi if both are numbers of the class; otherwise a result may wrap, and be any number
abbrev pub fitting : Bits → ℕ → ℕ → Interval
fitting w lo hi =
    if nat_le lo (greatest w) && nat_le hi (greatest w) then interval lo hi else all_of w

abbrev pub sum : Bits → Interval → Interval → Interval
sum w a b = fitting w (a.lo + b.lo) (a.hi + b.hi)

-- no wrap if no number of a is below one of b
abbrev pub difference : Bits → Interval → Interval → Interval
difference w a b = if nat_le b.hi a.lo then interval (a.lo - b.hi) (a.hi - b.lo) else all_of w

abbrev pub product : Bits → Interval → Interval → Interval
product w a b = fitting w (a.lo * b.lo) (a.hi * b.hi)

-- neither end is 0
abbrev pub is_above_zero : Interval → Bool
is_above_zero b = nat_le 1 b.lo && nat_le 1 b.hi

-- division by 0 gives 0
abbrev pub quotient : Interval → Interval → Interval
quotient a b = if is_above_zero b then interval (a.lo / b.hi) (a.hi / b.lo) else from_zero a.hi

-- the remainder of division by 0 is the dividend
abbrev pub remainder : Interval → Interval → Interval
remainder a b = from_zero (if is_above_zero b then min a.hi (b.hi - 1) else a.hi)

-- a common bit is a bit of each
abbrev pub conjunction : Interval → Interval → Interval
conjunction a b = from_zero (min a.hi b.hi)

-- the least power of two above a number of 64 bits
abbrev pub power_above : ℕ → ℕ
power_above n = 2 ^ (64 - leading_zeros w64 n)

-- OR and XOR have no bit above those of both
abbrev pub disjunction : Interval → Interval → Interval
disjunction a b = from_zero (power_above (max a.hi b.hi) - 1)

abbrev pub shifted_left : Bits → Interval → ℕ → Interval
shifted_left w a count = fitting w (a.lo * 2 ^ count) (a.hi * 2 ^ count)

abbrev pub shifted_right : Interval → ℕ → Interval
shifted_right a count = interval (a.lo / 2 ^ count) (a.hi / 2 ^ count)

-- the numbers from here on are negative
abbrev pub sign_bit : Bits → ℕ
sign_bit w = 2 ^ (bits (word_width w) - 1)

-- a number below the sign bit is shifted as RSH does
abbrev pub shifted_signed : Bits → Interval → ℕ → Interval
shifted_signed w a count = if nat_lt a.hi (sign_bit w) then shifted_right a count else all_of w

-- the count is masked by the width
abbrev pub count_of : Bits → Interval → ℕ
count_of w b = b.lo % bits (word_width w)

-- the interval of an operation's results, one formula for each operation
abbrev pub bounds : Bits → AluOp → Interval → Interval → Interval
bounds w Add a b = sum w a b
bounds w Sub a b = difference w a b
bounds w Mul a b = product w a b
bounds w Div a b = quotient a b
bounds w Sdiv a b = all_of w
bounds w Or a b = disjunction a b
bounds w And a b = conjunction a b
bounds w Lsh a b = if is_just b then shifted_left w a (count_of w b) else all_of w
bounds w Rsh a b = if is_just b then shifted_right a (count_of w b) else all_of w
bounds w Mod a b = remainder a b
bounds w Smod a b = all_of w
bounds w Xor a b = disjunction a b
bounds w Arsh a b = if is_just b then shifted_signed w a (count_of w b) else all_of w
