-- Stacks, lookups and states for the worked examples.
use Rattle.std.specs.Prelude.{ℕ, List, replicate, Option, option_map, Bool}
use Rattle.bpf_insn.specs.declared.reg.Reg.TheVariants.{R0, R6}
use Rattle.bpf_insn.specs.declared.operand.Bits.{Bits}
use Rattle.bpf_insn.specs.declared.operand.Bits.TheVariants.{Bits64}
use Rattle.bpf_insn.specs.declared.operand.Condition.{Condition}
use Rattle.bpf_insn.specs.declared.operand.Operand.{Operand}
use Rattle.abs_value.specs.declared.origin.Lookup.{Lookup}
use Rattle.abs_value.specs.declared.slot.AbsSlot.{AbsSlot}
use Rattle.abs_value.specs.declared.slot.AbsSlot.TheVariants.{Bytes}
use Rattle.abs_value.specs.declared.state.AbsState.{AbsState}
use Rattle.abs_value.specs.declared.value.Abs.{Abs}
use Rattle.abs_value.specs.declared.value.Abs.TheVariants.{Num}
use Rattle.abs_value.specs.declared.number.Number.{Number}
use Rattle.abs_value.specs.Intervals.{interval}
use Rattle.abs_value.specs.Known.{known, any_of}
use Rattle.abs_value.specs.Numbers.{number, single, tidied}
use Rattle.abs_value.specs.Stack.{stored, slot_at}
use Rattle.abs_value.specs.States.{value_at, with_value, with_stored, opening_state}
use Rattle.abs_value.specs.Lookups.{refined_state}

-- a number from lo to hi, with no more known
abbrev pub span : ℕ → ℕ → Number
span lo hi = tidied (interval lo hi) (any_of Bits64)

-- a number from lo to hi that has the bits of `has`, and may have those of `may_have`
abbrev pub with_bits : ℕ → ℕ → ℕ → ℕ → Number
with_bits lo hi has may_have = number (interval lo hi) (known has may_have)

-- lookups in one array by two calls, and in another by the first of them
abbrev pub first : Lookup
first = record { array = 0; slot = 4 }

abbrev pub second : Lookup
second = record { array = 0; slot = 9 }

abbrev pub elsewhere : Lookup
elsewhere = record { array = 7; slot = 4 }

-- the stack at the start of a run
abbrev pub no_bytes : List AbsSlot
no_bytes = replicate 64 (Bytes 0)

-- 7 in the last slot
abbrev pub kept_at_end : List AbsSlot
kept_at_end = stored no_bytes 504 8 (Num (single 7))

-- 8 bytes, 4 of them in the last slot
abbrev pub two_halves : List AbsSlot
two_halves = stored no_bytes 500 8 (Num (single 7))

-- one value in R0, another in R6 and in the last slot of the stack
abbrev pub holding : Abs → Abs → AbsState
holding a b = with_stored (with_value (with_value opening_state R0 a) R6 b) 504 8 b

-- these three values
abbrev pub three : AbsState → Abs × Abs × AbsSlot
three e = (value_at e 0, value_at e 6, slot_at e.stack 63)

-- on an edge of a comparison of R0
abbrev pub compared : Abs → Abs → Bits → Condition → Operand → Bool
    → Option (Abs × Abs × AbsSlot)
compared a b bits condition right jumps =
    option_map three (refined_state (holding a b) bits condition R0 right jumps)
