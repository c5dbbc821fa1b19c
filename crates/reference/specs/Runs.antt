-- Runs with a limit of steps.
use Rattle.std.specs.Prelude.{◌≡◌, ℕ, ◌+◌, ◌<◌, List, [], ◌∷◌, ◌++◌}
use Rattle.cells.specs.declared.event.CellEvent.{CellEvent}
use Rattle.bpf_semantics.specs.Program.{ShapedProgram}
use Rattle.bpf_semantics.specs.State.{State}
use Rattle.bpf_semantics.specs.Outcome as outcome
use Rattle.bpf_semantics.specs.Outcome.{Outcome, Going, Operates, Done}
use Rattle.bpf_semantics.specs.Run.{Ends, Traps}
use Rattle.bpf_semantics.specs.Step.{step}
use Rattle.reference.specs.declared.observed.RunEnd.{RunEnd}
use Rattle.reference.specs.declared.observed.RunEnd.TheVariants.{Choice, Trap, Unfinished}

-- the steps from one state to another, with the events on the way
pub data GoesOn (p : ShapedProgram) (s : State) : List CellEvent → State → Type 0 where
  stays : GoesOn p s [] s
  goes : {es : List CellEvent} {t u : State}
      → GoesOn p s es t → step p t ≡ Going u → GoesOn p s es u
  operated : {es : List CellEvent} {t : State} {next : ℕ → State} (e : CellEvent)
      → GoesOn p s es t → step p t ≡ Operates e.cell e.op next
      → GoesOn p s (es ++ e ∷ []) (next e.reply)

-- the run from s to t has these events, within `limit` steps, and this outcome is next
pub record IsCut (p : ShapedProgram) (s : State) (es : List CellEvent) (limit : ℕ) (o : Outcome)
    (t : State) : Type 0 where
  pub goes_on : GoesOn p s es t
  pub within : t.count < s.count + limit
  pub next : step p t ≡ o

-- the result of a run with a limit of steps, with the events on the way; t is its last state
abbrev pub IsRun : ShapedProgram → State → List CellEvent → ℕ → RunEnd → State → Type 0
IsRun p s es limit (Choice choice) t =
    IsCut p s es limit (Done choice) t × Ends p s es choice (t.count + 1)
IsRun p s es limit Trap t = IsCut p s es limit outcome.Trap t × Traps p s es t.count
IsRun p s es limit Unfinished t = GoesOn p s es t × (t.count ≡ s.count + limit)
