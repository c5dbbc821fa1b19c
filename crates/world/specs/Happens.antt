-- An event of the world and its result, and a run of the world: events one after the other.
use Rattle.std.specs.Prelude.{◌≡◌, ℕ, ◌+◌, ◌≤◌, List, [], ◌∷◌, length, Result, Ok, Err}
use Rattle.std.specs.Arc.{arc_value}
use Rattle.attrs.specs.Attributes.{Attributes, AreShort}
use Rattle.bpf_semantics.specs.State.{State, opening}
use Rattle.bpf_semantics.specs.Step.{step}
use Rattle.bpf_semantics.specs.Outcome.{Outcome, Going, Done}
use Rattle.bpf_semantics.specs.Program.{ShapedProgram}
use Rattle.ruleset.specs.Rules.{Rules, IsRuleset, appid_of}
use Rattle.world.specs.World.{WorldState, Worker, Idle, Running, Ended, IsWorker, IsIdle, IsRunning}
use Rattle.world.specs.World.{with_worker, with_ruleset, HasProgram, newest}
use Rattle.world.specs.Counters.{answered, cells_after}
use Rattle.world.specs.declared.event.Event.{Event}
use Rattle.world.specs.declared.event.Event.TheVariants.{Start, Step, Finish, Swap}
use Rattle.world.specs.declared.event.Effect.{Effect}
use Rattle.world.specs.declared.event.Effect.TheVariants as effect
use Rattle.world.specs.declared.event.WorldFault.{WorldFault}
use Rattle.world.specs.declared.event.WorldFault.TheVariants as fault

-- the result of an event
abbrev pub Answer : Type 0
Answer = Result Effect WorldFault

-- ---- one event

-- one worker and the counters change by its step, and nothing else
abbrev pub with_step : WorldState → ℕ → Outcome → Worker → WorldState
with_step w k outcome worker =
    record (with_worker w k worker) { cells = cells_after w.cells outcome }

-- a Start: the newest ruleset's program for the app, from its opening state. A Start can't fail
-- because of its texts: each `Attrs` keeps that they are short
pub record StartsRun (w : WorldState) (k : ℕ) (a : Attributes) (v : WorldState) : Type 0 where
  pub program : ShapedProgram
  pub texts_are_short : AreShort a.texts
  pub idle : IsWorker w k Idle
  pub offered : HasProgram w.rulesets (newest w.rulesets) (appid_of a) program
  pub after : v ≡ with_worker w k (Running (newest w.rulesets) program (opening a))

-- a Step: one step of the machine, with the reply of the world's counter if it accesses one, after
-- which the run continues
pub record StepsRun (w : WorldState) (k : ℕ) (v : WorldState) : Type 0 where
  pub number : ℕ
  pub program : ShapedProgram
  pub from : State
  pub to : State
  pub running : IsWorker w k (Running number program from)
  pub goes_on : answered w.cells (step program from) ≡ Going to
  pub after : v ≡ with_step w k (step program from) (Running number program to)

-- a Step: one step of the machine, by which the run ends with its choice
pub record EndsRun (w : WorldState) (k choice : ℕ) (v : WorldState) : Type 0 where
  pub number : ℕ
  pub program : ShapedProgram
  pub from : State
  pub running : IsWorker w k (Running number program from)
  pub ends : step program from ≡ Done choice
  pub after : v ≡ with_worker w k (Ended number program from.attributes choice (from.count + 1))

-- a Finish: the worker returns the result of its run, and is idle
pub record FinishesRun (w : WorldState) (k choice instructions number : ℕ)
    (v : WorldState) : Type 0 where
  pub program : ShapedProgram
  pub attributes : Attributes
  pub ended : IsWorker w k (Ended number program attributes choice instructions)
  pub after : v ≡ with_worker w k Idle

-- a Swap appends a ruleset. No worker and no counter changes. A Swap can't fail because of its
-- ruleset: each `Ruleset` keeps that it is sound
pub record SwapsRules (w : WorldState) (rules : Rules) (number : ℕ) (v : WorldState) : Type 0 where
  pub sound : IsRuleset rules
  pub after : v ≡ with_ruleset w rules
  pub number_is : number ≡ newest v.rulesets

-- no worker has the event's number; a Swap has none
abbrev pub LacksWorker : WorldState → Event → Type 0
LacksWorker w (Start k attrs) = length w.workers ≤ k
LacksWorker w (Step k) = length w.workers ≤ k
LacksWorker w (Finish k) = length w.workers ≤ k
LacksWorker w (Swap rules) = ⊥

-- the worker is idle, and the newest ruleset has a program for the app
pub record CanStart (w : WorldState) (k : ℕ) (a : Attributes) : Type 0 where
  pub idle : IsWorker w k Idle
  pub program : ShapedProgram
  pub offered : HasProgram w.rulesets (newest w.rulesets) (appid_of a) program

-- the worker is idle, and the newest ruleset doesn't have the app
pub record HasNoApp (w : WorldState) (k : ℕ) (a : Attributes) : Type 0 where
  pub idle : IsWorker w k Idle
  pub none : (program : ShapedProgram) → ¬ HasProgram w.rulesets (newest w.rulesets)
      (appid_of a) program

-- an event is refused with this fault; if several apply, with the lowest
abbrev pub IsRefusedEvent : WorldState → Event → WorldFault → Type 0
IsRefusedEvent w event fault.NoWorker = LacksWorker w event
IsRefusedEvent w (Start k attrs) fault.Busy = (x : Worker) × IsWorker w k x × ¬ IsIdle x
IsRefusedEvent w (Step k) fault.Idle = (x : Worker) × IsWorker w k x × ¬ IsRunning x
IsRefusedEvent w (Finish k) fault.Idle = IsWorker w k Idle
IsRefusedEvent w (Start k attrs) fault.NoApp = HasNoApp w k (arc_value attrs)
IsRefusedEvent w (Finish k) fault.NotDone = (x : Worker) × IsWorker w k x × IsRunning x
IsRefusedEvent w (Start k attrs) fault.Memory = CanStart w k (arc_value attrs)
IsRefusedEvent w (Swap rules) fault.Memory = Unit {0}
IsRefusedEvent w event e = ⊥

-- an event with its result leads from one world to another; a refused one changes nothing
abbrev pub Happens : WorldState → Event → Answer → WorldState → Type 0
Happens w (Start k attrs) (Ok effect.Started) v = StartsRun w k (arc_value attrs) v
Happens w (Step k) (Ok effect.Stepped) v = StepsRun w k v
Happens w (Step k) (Ok (effect.Ended choice)) v = EndsRun w k choice v
Happens w (Finish k) (Ok (effect.Finished choice instructions number)) v =
    FinishesRun w k choice instructions number v
Happens w (Swap rules) (Ok (effect.Swapped number)) v = SwapsRules w (arc_value rules) number v
Happens w event (Ok e) v = ⊥
Happens w event (Err e) v = IsRefusedEvent w event e × (v ≡ w)

-- ---- a run of the world: a list of events with their results

-- a list of events with their results is a run of the world
abbrev pub Plays : WorldState → List Event → List Answer → WorldState → Type 0
Plays w [] [] v = v ≡ w
Plays w (e ∷ es) (r ∷ rs) v = (u : WorldState) × Happens w e r u × Plays u es rs v
Plays w es rs v = ⊥
