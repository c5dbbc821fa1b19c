-- The observable result of a step, in terms of the semantics.
use Rattle.std.specs.Prelude.{◌≡◌, ℕ}
use Rattle.cells.specs.Events.{CanReply}
use Rattle.cells.specs.declared.event.CellEvent.{CellEvent}
use Rattle.bpf_semantics.specs.Program.{ShapedProgram}
use Rattle.bpf_semantics.specs.State.{State}
use Rattle.bpf_semantics.specs.Outcome as outcome
use Rattle.bpf_semantics.specs.Step.{step}
use Rattle.reference.specs.declared.observed.Observed.{Observed}
use Rattle.reference.specs.declared.observed.Observed.TheVariants as observed

-- the semantics' step requests the operation of this event, and continues with its reply
pub record IsEventStep (p : ShapedProgram) (s : State) (e : CellEvent) (t : State) : Type 0 where
  pub next : ℕ → State
  pub operates : step p s ≡ outcome.Operates e.cell e.op next
  pub state : t ≡ next e.reply
  pub fits : CanReply e.cell e.op e.reply

-- the step from s to t has this observable result; the end of a run leaves the state unchanged
abbrev pub IsStep : ShapedProgram → State → Observed → State → Type 0
IsStep p s observed.Going t = step p s ≡ outcome.Going t
IsStep p s (observed.Event e) t = IsEventStep p s e t
IsStep p s (observed.Done choice) t = (step p s ≡ outcome.Done choice) × (t ≡ s)
IsStep p s observed.Trap t = (step p s ≡ outcome.Trap) × (t ≡ s)

-- the pass (a ghost token) gained the observed event, otherwise it is unchanged
module _ {P : Type 0} (grew : P → CellEvent → P → Type 0) where
  abbrev pub Grew : P → Observed → P → Type 0
  Grew p (observed.Event e) q = grew p e q
  Grew p o q = q ≡ p
