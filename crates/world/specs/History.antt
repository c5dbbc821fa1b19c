-- What a worker's Steps do to the counters in a run of the world, and how its own run ends by them.
use Rattle.std.specs.Prelude.{ℕ, List, [], ◌∷◌, ◌++◌, Option, Some, None, slice_get, ◌==◌}
use Rattle.std.specs.Prelude.{if◌then◌else◌}
use Rattle.bpf_semantics.specs.Program.{ShapedProgram}
use Rattle.bpf_semantics.specs.State.{State}
use Rattle.bpf_semantics.specs.Step.{step}
use Rattle.bpf_semantics.specs.Run.{Ends}
use Rattle.cells.specs.declared.event.CellEvent.{CellEvent}
use Rattle.world.specs.World.{WorldState, Worker, Idle, Running, Ended}
use Rattle.world.specs.Counters.{accesses}
use Rattle.world.specs.Happens.{Answer, Plays}
use Rattle.world.specs.declared.event.Event.{Event}
use Rattle.world.specs.declared.event.Event.TheVariants.{Start, Step, Finish, Swap}

-- the counter access of a worker's next step, if it has one
abbrev pub accesses_of : List ℕ → Option Worker → List CellEvent
accesses_of cells (Some (Running number program s)) = accesses cells (step program s)
accesses_of cells (Some Idle) = []
accesses_of cells (Some (Ended number program a choice instructions)) = []
accesses_of cells None = []

-- the counter access of an event for a worker: that of its own Step
abbrev pub made_at : ℕ → WorldState → Event → List CellEvent
made_at k w (Step j) = if j == k then accesses_of w.cells (slice_get w.workers k) else []
made_at k w (Start j attrs) = []
made_at k w (Finish j) = []
made_at k w (Swap rules) = []

-- the counter accesses of all events of a run of the world for a worker, in their order
abbrev pub made_by : (k : ℕ) (w v : WorldState) (events : List Event) (answers : List Answer)
    → Plays w events answers v → List CellEvent
made_by k w v [] [] plays = []
made_by k w v (e ∷ es) (r ∷ rs) plays = made_at k w e ++ made_by k plays.0 v es rs plays.2
made_by k w v [] (r ∷ rs) plays = []
made_by k w v (e ∷ es) [] plays = []

-- from this world on, the machine's run from a state makes the events that the worker's Steps make,
-- and ends with `choice` after `instructions` in all
pub record EndsDuring (w : WorldState) (k : ℕ) (events : List Event) (answers : List Answer)
    (program : ShapedProgram) (s : State) (choice instructions : ℕ) : Type 0 where
  pub world : WorldState
  pub plays : Plays w events answers world
  pub ends : Ends program s (made_by k w world events answers plays) choice instructions
