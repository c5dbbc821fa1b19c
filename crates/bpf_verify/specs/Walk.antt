-- A walk over the slots of a program, with the entries by which the sweep judges.
use Rattle.std.specs.Prelude.{ℕ, ◌≤◌, length, Option}
use Rattle.bpf_insn.specs.Program.{Program}
use Rattle.cells.specs.Arrays.{AppShape}
use Rattle.abs_value.specs.declared.state.AbsState.{AbsState}
use Rattle.bpf_verify.specs.Accepted.{IsAccepted}
use Rattle.bpf_verify.specs.Entries.{current_entry, AreSwept, HaveArrived}
use Rattle.bpf_verify.specs.declared.walk.Walk.{Walk}

-- the entry of the current slot; none if no edge leads to it
abbrev pub entry_here : Walk → Option AbsState
entry_here w = current_entry w.entries

-- no slot before k breaks a rule, and k is next
abbrev pub IsWalkBefore : Program → AppShape → ℕ → Walk → Type 0
IsWalkBefore code shape k w = AreSwept code shape k w.entries

-- no slot before k breaks a rule, and the entry of k is the current one
abbrev pub IsWalkAt : Program → AppShape → ℕ → Walk → Type 0
IsWalkAt code shape k w = HaveArrived code shape k w.entries

-- if a walk reaches the end, the program is accepted
abbrev pub EndIsAccepted : Program → AppShape → Type 0
EndIsAccepted code shape =
    (k : ℕ) (w : Walk) → length code ≤ k → IsWalkBefore code shape k w → IsAccepted code shape
