-- Runs of the machine, done or not, each of a program in a ruleset of a published list.
use Rattle.std.specs.Prelude.{◌≡◌, ℕ, List, [], ◌∷◌, map}
use Rattle.attrs.specs.Attributes.{Attributes, AreShort}
use Rattle.bpf_semantics.specs.Outcome.{Going, Operates}
use Rattle.bpf_semantics.specs.Program.{ShapedProgram}
use Rattle.bpf_semantics.specs.Run.{Ends}
use Rattle.bpf_semantics.specs.State.{State, opening}
use Rattle.bpf_semantics.specs.Step.{step}
use Rattle.cells.specs.declared.event.CellEvent.{CellEvent}
use Rattle.ruleset.specs.Rules.{Rules, appid_of}
use Rattle.world.specs.Safe.{IsSafeEnd}
use Rattle.world.specs.World.{Worker, Running, Ended, HasProgram}

-- the run gets from one state to another, and makes the events on the way. A step that accesses a
-- counter continues with the reply of its event, whatever it is
pub data Reaches (p : ShapedProgram) : State → List CellEvent → State → Type 0 where
  stays : {s : State} → Reaches p s [] s
  goes : {s t u : State} {es : List CellEvent} → step p s ≡ Going t → Reaches p t es u
      → Reaches p s es u
  operates : {s u : State} {next : ℕ → State} {e : CellEvent} {es : List CellEvent}
      → step p s ≡ Operates e.cell e.op next → Reaches p (next e.reply) es u
      → Reaches p s (e ∷ es) u

-- how far a run is: in a state, from which it continues, or at its end
pub data Stage : Type 0 where
  UnderWay : State → Stage
  AtEnd : (choice instructions : ℕ) → Stage

-- from this state the run gets to the stage, and makes the events on the way
abbrev pub ComesAsFar : ShapedProgram → State → List CellEvent → Stage → Type 0
ComesAsFar p s events (UnderWay t) = Reaches p s events t
ComesAsFar p s events (AtEnd choice instructions) = Ends p s events choice instructions

-- a run for one app: the number of its ruleset, counted from 1, its program, the app's attributes,
-- its events on counters so far, and its stage
pub record AppRun : Type 0 where
  pub number : ℕ
  pub program : ShapedProgram
  pub attributes : Attributes
  pub events : List CellEvent
  pub stage : Stage

-- The run's program is the one that its ruleset has for the appid (attribute 0). It gets to its
-- stage from the opening state on its attributes. Their texts are short, as each `Attrs` ensures
-- and a Start of the world requires
pub record IsRunUnder (published : List Rules) (run : AppRun) : Type 0 where
  pub offered : HasProgram published run.number (appid_of run.attributes) run.program
  pub texts_are_short : AreShort run.attributes.texts
  pub comes : ComesAsFar run.program (opening run.attributes) run.events run.stage

-- such a run to its end, which is as safe as the end of a run of a world: in time, and with 0 or a
-- release of its app
pub record IsWholeRun (published : List Rules) (run : AppRun) : Type 0 where
  pub under : IsRunUnder published run
  pub choice : ℕ
  pub instructions : ℕ
  pub ended : run.stage ≡ AtEnd choice instructions
  pub safe : IsSafeEnd published run.number run.program run.attributes choice instructions

abbrev pub lists_of_runs : List AppRun → List (List CellEvent)
lists_of_runs = map (λ run. run.events)

-- ---- workers of the world

-- the worker that has started the run, and has done no step of it
abbrev pub at_start : AppRun → Worker
at_start run = Running run.number run.program (opening run.attributes)

-- the worker that has taken the run to a stage
abbrev pub at_stage : AppRun → Stage → Worker
at_stage run (UnderWay s) = Running run.number run.program s
at_stage run (AtEnd choice instructions) =
    Ended run.number run.program run.attributes choice instructions

-- the worker that has taken it as far as it got
abbrev pub as_far : AppRun → Worker
as_far run = at_stage run run.stage
