-- A number truncated to the class is a number of the class, and the truncated interval contains it.
use Rattle.std.proofs.Common.{ℕ, ◌≤◌, arith}
use Rattle.bpf_insn.specs.declared.operand.Bits.{Bits}
use Rattle.bpf_insn.specs.declared.operand.Bits.TheVariants.{Bits64, Bits32}
use Rattle.bpf_insn.specs.Words.{word}
use Rattle.abs_value.specs.declared.interval.Interval.{Interval}
use Rattle.abs_value.specs.Intervals.{greatest, all_of, cut_interval}
use Rattle.abs_value.specs.Covers.{IsBetween, IsWord}

-- a number of the class
abbrev pub IsOf : Bits → ℕ → Type 0
IsOf w x = x ≤ greatest w

pub word_is_of : (w : Bits) (x : ℕ) → IsWord x → IsOf w (word w x)
word_is_of Bits64 x h = omega arith
word_is_of Bits32 x h = omega arith

pub cut_interval_holds : (w : Bits) (a : Interval) (x : ℕ) → IsBetween a x
    → IsBetween (cut_interval w a) (word w x)
cut_interval_holds Bits64 a x h = h
cut_interval_holds Bits32 a x h = grind arith

-- any number of the class
pub all_of_holds : (w : Bits) (x : ℕ) → IsOf w x → IsBetween (all_of w) x
all_of_holds w x h = (omega arith, h)
