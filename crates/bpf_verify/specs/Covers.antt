-- The promise about the runs of an accepted program.
use Rattle.std.specs.Prelude.{◌≡◌, ℕ, ◌+◌, ◌<◌, ◌≤◌, List, All, length, Some, IsSome}
use Rattle.bpf_insn.specs.Program.{at}
use Rattle.bpf_semantics.specs.State.{State, HasWords}
use Rattle.bpf_semantics.specs.Outcome.{Outcome, Going, Operates, Done, Trap}
use Rattle.bpf_semantics.specs.Step.{step}
use Rattle.bpf_semantics.specs.Program.{ShapedProgram}
use Rattle.bpf_semantics.specs.Run.{Ends}
use Rattle.cells.specs.Arrays.{AppShape}
use Rattle.cells.specs.Events.{CanReply}
use Rattle.cells.specs.declared.event.CellEvent.{CellEvent}
use Rattle.cells.specs.declared.event.CellOp.{CellOp}
use Rattle.abs_value.specs.declared.state.AbsState.{AbsState}
use Rattle.abs_value.specs.Covers.{IsRepresented}
use Rattle.bpf_checks.specs.Sound.{IsLawful}
use Rattle.bpf_verify.specs.Accepted.{entry_of}

-- the entry of the state's slot represents the state, given some results of the earlier calls; its
-- numbers are words
pub record IsCovered (p : ShapedProgram) (s : State) : Type 0 where
  pub entry : AbsState
  pub entry_is : entry_of p s.slot ≡ Some entry
  pub represents : IsRepresented p.shape entry s
  pub words : HasWords s
  pub place : IsSome (at p.code s.slot)

-- a step doesn't trap: it leads forward to a covered state, or ends with 0 or one of the releases.
-- Its counter operation is allowed by the shape, and each fitting reply leads forward to a covered
-- state
abbrev pub IsSafeOutcome : ShapedProgram → State → Outcome → Type 0
IsSafeOutcome p s (Going t) = (s.slot < t.slot) × IsCovered p t
IsSafeOutcome p s (Operates cell op next) =
    IsLawful p.shape cell op
    × ((reply : ℕ) → CanReply cell op reply
    → (s.slot < (next reply).slot) × IsCovered p (next reply))
IsSafeOutcome p s (Done n) = n ≤ p.shape.releases
IsSafeOutcome p s Trap = ⊥

-- no run from the state traps, whatever fitting replies counters give. It ends, with 0 or a
-- release, and its count of instructions is at most the number of the program's slots
pub data EndsWell (p : ShapedProgram) : State → Type 0 where
  ends : {s : State} {choice : ℕ} → step p s ≡ Done choice → choice ≤ p.shape.releases
      → s.count + 1 ≤ length p.code → EndsWell p s
  goes : {s t : State} → step p s ≡ Going t → EndsWell p t → EndsWell p s
  operates : {s : State} {cell : ℕ} {op : CellOp} {next : ℕ → State} → step p s
      ≡ Operates cell op next
      → ((reply : ℕ) → CanReply cell op reply → EndsWell p (next reply)) → EndsWell p s

-- a step from a covered state is safe, and the whole run ends
abbrev pub StepsAreSafe : ShapedProgram → Type 0
StepsAreSafe p = (s : State) → IsCovered p s → IsSafeOutcome p s (step p s)

abbrev pub RunsEndWell : ShapedProgram → Type 0
RunsEndWell p = (s : State) → IsCovered p s → s.count ≤ s.slot → EndsWell p s

-- each event is on a cell of the shape's arrays, and its reply fits. On a cell with a quota it is a
-- load or an addition of 1
abbrev pub AreLawful : AppShape → List CellEvent → Type 0
AreLawful shape events = All (λ e. IsLawful shape e.cell e.op) events

abbrev pub HasPossibleReply : CellEvent → Type 0
HasPossibleReply e = CanReply e.cell e.op e.reply

abbrev pub RunsAreLawful : ShapedProgram → Type 0
RunsAreLawful p =
    (s : State) (events : List CellEvent) (choice count : ℕ) → IsCovered p s
    → All HasPossibleReply events → Ends p s events choice count → AreLawful p.shape events
