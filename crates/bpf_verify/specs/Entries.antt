-- The current entry, and the entries before a slot is judged.
use Rattle.std.specs.Prelude.{ℕ, Option, Some, None, if◌then◌else◌}
use Rattle.abs_value.specs.declared.state.AbsState.{AbsState}
use Rattle.bpf_insn.specs.Program.{Program}
use Rattle.cells.specs.Arrays.{AppShape}
use Rattle.bpf_verify.specs.Pool.{waits_at}
use Rattle.bpf_semantics.specs.Program.{shaped}
use Rattle.bpf_verify.specs.Sweep.{arrived, IsSwept, HasArrived}
use Rattle.bpf_verify.specs.declared.entries.Entries.{Entries}

-- the current entry, if it is live
abbrev pub current_entry : Entries → Option AbsState
current_entry e = if e.is_live then Some e.here else None

-- the invariant of the sweep, before slot k is judged
abbrev pub AreSwept : Program → AppShape → ℕ → Entries → Type 0
AreSwept code shape k e = IsSwept (shaped code shape) k (current_entry e) e.waiting

-- the sweep at slot k, whose entry is the current one
abbrev pub HaveArrived : Program → AppShape → ℕ → Entries → Type 0
HaveArrived code shape k e = HasArrived (shaped code shape) k (current_entry e) e.waiting

-- what waits for the slot, joined with what falls through
abbrev pub arriving : Entries → ℕ → Option AbsState
arriving e k = arrived (waits_at e.waiting k) (current_entry e)
