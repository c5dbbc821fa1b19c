-- The invariant of the sweep: the current entry, and those that wait for slots ahead.
use Rattle.std.specs.Prelude.{◌≡◌, ℕ, ◌+◌, ◌<◌, ◌≤◌, length, Option, Some, None, IsSome, true}
use Rattle.std.specs.Prelude.{if◌then◌else◌, max, ◌⊎◌}
use Rattle.bpf_insn.specs.declared.insn.Insn.{Insn}
use Rattle.bpf_insn.specs.Program.{Program, at}
use Rattle.bpf_semantics.specs.Program.{ShapedProgram}
use Rattle.cells.specs.Arrays.{AppShape}
use Rattle.flow_check.specs.Edges.{goes_on}
use Rattle.abs_value.specs.declared.state.AbsState.{AbsState}
use Rattle.abs_value.specs.States.{join_states}
use Rattle.bpf_checks.specs.Transfer.{going_on}
use Rattle.bpf_verify.specs.Pool.{Waiting, waits_at, held, joined_with, IsChanged}
use Rattle.bpf_verify.specs.Accepted.{join_all, incoming, entry_of, IsFine}
use Rattle.bpf_verify.specs.Kept.{jumps_to, most_ahead, greatest_kept}

-- the entry when a slot is reached: what waited, joined with what falls through
abbrev pub arrived : Option AbsState → Option AbsState → Option AbsState
arrived None here = here
arrived (Some w) None = Some w
arrived (Some w) (Some h) = Some (join_states w h)

-- an entry waits only for a slot ahead, to which a jump from before k leads
pub record IsAwaited (p : Program) (k m : ℕ) : Type 0 where
  pub ahead : k ≤ m
  pub place : IsSome (at p m)
  pub target : jumps_to p k m ≡ true

-- the invariant before slot k is judged
pub record IsSwept (p : ShapedProgram) (k : ℕ) (here : Option AbsState) (w : Waiting) : Type 0 where
  pub place : (k ≡ length p.code) ⊎ IsSome (at p.code k)
  pub len : length w.entries ≡ length p.code
  pub entry : k < length p.code → arrived (waits_at w k) here ≡ join_all (incoming p k k)
  pub later : (m : ℕ) → k < m → m < length p.code → waits_at w m ≡ join_all (incoming p k m)
  pub waits : (m : ℕ) → IsSome (waits_at w m) → IsAwaited p.code k m
  pub fine : (s : ℕ) → s < k → IsFine p s
  pub exact : w.most + 1 ≡ greatest_kept p k
  pub most : w.most ≤ most_ahead p.code k

-- at slot k: its entry is the current one, and the one that waited is freed
pub record HasArrived (p : ShapedProgram) (k : ℕ) (here : Option AbsState) (w : Waiting)
    : Type 0 where
  pub fall_through : Option AbsState
  pub waited : Waiting
  pub swept : IsSwept p k fall_through waited
  pub entry : here ≡ entry_of p k
  pub freed : IsChanged waited w k None
  pub most : w.most ≡ waited.most
  pub held_fits : held w ≤ w.most

-- the edge to a target is joined into what waits; unchanged if the edge is dropped or there is no
-- jump
abbrev pub IsAdded : Option ℕ → Option AbsState → Waiting → Waiting → Type 0
IsAdded (Some t) (Some f) old new =
    IsChanged old new t (Some (joined_with (waits_at old t) f))
    × (new.most ≡ max old.most (held new))
IsAdded target edge old new = old ≡ new

-- the entry that falls through
abbrev pub falling : AppShape → ℕ → AbsState → Insn → Option AbsState
falling shape s e i = if goes_on i then going_on shape s e i else None
