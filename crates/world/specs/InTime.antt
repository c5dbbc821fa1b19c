-- How long a run takes: each Step continues it, and it ends within as many as its program has
-- slots.
use Rattle.std.specs.Prelude.{◌≡◌, ℕ, ◌+◌, suc, ◌≤◌, List, [], ◌∷◌, length, Some, Ok, IsOk, take}
use Rattle.std.specs.Prelude.{slice_get, ◌==◌, if◌then◌else◌}
use Rattle.bpf_semantics.specs.State.{State}
use Rattle.bpf_semantics.specs.Program.{ShapedProgram}
use Rattle.world.specs.World.{WorldState, Worker, Running, IsWorker, IsRunning}
use Rattle.world.specs.Happens.{Answer, Happens, Plays}
use Rattle.world.specs.History.{EndsDuring}
use Rattle.world.specs.Safe.{IsSafeWorld}
use Rattle.world.specs.declared.event.Event.{Event}
use Rattle.world.specs.declared.event.Event.TheVariants.{Step}
use Rattle.world.specs.declared.event.Effect.TheVariants as effect

-- a Step of a worker whose run isn't done isn't refused
abbrev pub TakesItsStep : Type 0
TakesItsStep = (w v : WorldState) (k : ℕ) (x : Worker) (answer : Answer)
    → IsWorker w k x → IsRunning x → Happens w (Step k) answer v → IsOk answer

-- how many of the events are a Step of the worker
abbrev pub steps_of : ℕ → List Event → ℕ
steps_of k [] = 0
steps_of k (Step j ∷ events) = if j == k then suc (steps_of k events) else steps_of k events
steps_of k (event ∷ events) = steps_of k events

-- one of the worker's Steps has the end of its run as its result. Its choice and the number of
-- instructions are the machine's from the state, on the replies that the worker's Steps got
pub record HasEnded (w : WorldState) (k : ℕ) (program : ShapedProgram) (s : State)
    (events : List Event)
    (answers : List Answer) : Type 0 where
  pub place : ℕ
  pub choice : ℕ
  pub instructions : ℕ
  pub event_is : slice_get events place ≡ Some (Step k)
  pub answer_is : slice_get answers place ≡ Some (Ok (effect.Ended choice))
  pub ends : EndsDuring w k (take (suc place) events) (take (suc place) answers)
      program s choice instructions

-- a run has ended after as many Steps of its worker as its program has slots
abbrev pub EndsInTime : Type 0
EndsInTime = (w v : WorldState) (k number : ℕ) (program : ShapedProgram) (s : State)
    (events : List Event) (answers : List Answer)
    → IsSafeWorld w → IsWorker w k (Running number program s) → Plays w events answers v
    → length program.code ≤ s.count + steps_of k events → HasEnded w k program s events answers
