-- The result of an instruction, before the reply of a counter that it uses.
use Rattle.std.specs.Prelude.{◌≡◌, ℕ, ◌+◌, ◌-◌, ◌<◌, ◌^◌, Option, Some, None, Bool, true, false}
use Rattle.bpf_insn.specs.declared.insn.Insn.{Insn}
use Rattle.bpf_insn.specs.declared.insn.Insn.TheVariants as insn
use Rattle.bpf_insn.specs.declared.reg.Reg.{Reg}
use Rattle.bpf_insn.specs.Table.{number_of}
use Rattle.cells.specs.declared.event.CellNo.{CellNo}
use Rattle.bpf_semantics.specs.State.{State, with_register}
use Rattle.bpf_semantics.specs.Outcome as outcome
use Rattle.bpf_semantics.specs.Outcome.{Outcome, moved_to}
use Rattle.reference.specs.declared.attempt.Attempt.{Attempt}
use Rattle.reference.specs.declared.attempt.Attempt.TheVariants as attempt

-- the state after the counter's reply
abbrev pub replied : State → Option Reg → ℕ → State
replied s None reply = moved_to s (s.slot + 1)
replied s (Some dst) reply = moved_to (with_register s (number_of dst) reply) (s.slot + 1)

-- the outcome of a step from s is this result, and t is the state after it; only a step that
-- continues changes the state
abbrev pub Comes : Outcome → State → Attempt → State → Type 0
Comes o s attempt.Going t = o ≡ outcome.Going t
Comes o s (attempt.Operates cell op into) t =
    (o ≡ outcome.Operates cell.number op (replied s into)) × (t ≡ s)
Comes o s (attempt.Done choice) t = (o ≡ outcome.Done choice) × (t ≡ s)
Comes o s attempt.Trap t = (o ≡ outcome.Trap) × (t ≡ s)

-- one more instruction fits: the slot is within a program, and the count doesn't overflow
pub record HasRoom (s : State) : Type 0 where
  pub slot : s.slot < 4096
  pub count : s.count < 2 ^ 64 - 1

-- the same for an instruction that may be undefined
abbrev pub ComesIf : Option Outcome → State → Option Attempt → Type 0
ComesIf o s None = o ≡ None
ComesIf None s (Some a) = ⊥
ComesIf (Some o) s (Some a) = Comes o s a s

-- a counter by its number
abbrev pub cell_number_in : Option CellNo → Option ℕ
cell_number_in None = None
cell_number_in (Some cell) = Some cell.number

-- the instructions that access memory or a counter
abbrev pub is_access : Insn → Bool
is_access (insn.Load kind dst src offset) = true
is_access (insn.StoreImm size dst offset imm) = true
is_access (insn.Store size dst src offset) = true
is_access (insn.Atomic op size dst src offset) = true
is_access i = false
