-- The result of a Finish: that of its worker's own run, independent of other workers' runs.
use Rattle.std.specs.Prelude.{◌≡◌, ◌≢◌, ℕ, ◌<◌, ◌≤◌, List, length, take, drop, slice_get, Some, Ok}
use Rattle.std.specs.Prelude.{◌⊎◌}
use Rattle.std.specs.declared.alloc.Global.{Global}
use Rattle.std.specs.Arc.{arc_value}
use Rattle.std.specs.declared.sync.Arc.{Arc}
use Rattle.attrs.specs.Attributes.{Attributes, AreShort}
use Rattle.bpf_semantics.specs.State.{opening}
use Rattle.bpf_semantics.specs.Program.{ShapedProgram}
use Rattle.ruleset.specs.Rules.{appid_of}
use Rattle.world.specs.World.{WorldState, Worker, Idle, Running, Ended, IsWorker, HasProgram}
use Rattle.world.specs.World.{newest}
use Rattle.world.specs.Happens.{Answer, Plays}
use Rattle.world.specs.History.{EndsDuring}
use Rattle.world.specs.Safe.{IsSafeWorld}
use Rattle.world.specs.declared.event.Event.{Event}
use Rattle.world.specs.declared.event.Event.TheVariants.{Start, Finish}
use Rattle.world.specs.declared.event.Effect.TheVariants as effect

-- the event at `place` is a Finish of the worker with this result
pub record IsFinished (k : ℕ) (events : List Event) (answers : List Answer)
    (place number choice instructions : ℕ) : Type 0 where
  pub event_is : slice_get events place ≡ Some (Finish k)
  pub answer_is : slice_get answers place ≡ Some (Ok (effect.Finished choice instructions number))

-- before the place, all Starts of the worker were refused
abbrev pub HasNoStart : ℕ → List Event → List Answer → ℕ → Type 0
HasNoStart k events answers place = (j : ℕ) (attrs : Arc Attributes Global)
    → j < place → slice_get events j ≡ Some (Start k attrs)
    → slice_get answers j ≢ Some (Ok effect.Started)

-- a Start of the worker that wasn't refused, the latest one before a place
pub record IsLatestStart (k : ℕ) (events : List Event) (answers : List Answer) (place start : ℕ)
    (attrs : Arc Attributes Global) : Type 0 where
  pub before : start < place
  pub event_is : slice_get events start ≡ Some (Start k attrs)
  pub answer_is : slice_get answers start ≡ Some (Ok effect.Started)
  pub latest : (j : ℕ) (other : Arc Attributes Global) → start < j → j < place
      → slice_get events j ≡ Some (Start k other) → slice_get answers j ≢ Some (Ok effect.Started)

-- the part of a list before a place, from `start` on
abbrev pub since : {A : Type 0} → ℕ → ℕ → List A → List A
since start place xs = drop start (take place xs)

-- the number, the choice and the instructions are those of the latest Start's run. The run has the
-- program that the newest ruleset then had for the app, starts on the Start's attributes, and gets
-- the replies since
pub record IsOwnRun (w : WorldState) (k : ℕ) (events : List Event) (answers : List Answer)
    (place number choice instructions : ℕ) : Type 0 where
  pub start : ℕ
  pub attrs : Arc Attributes Global
  pub started : IsLatestStart k events answers place start attrs
  pub world : WorldState
  pub plays : Plays w (take start events) (take start answers) world
  pub newest_is : number ≡ newest world.rulesets
  pub program : ShapedProgram
  pub offered : HasProgram world.rulesets number (appid_of (arc_value attrs)) program
  pub texts_are_short : AreShort (arc_value attrs).texts
  pub ends : EndsDuring world k (since start place events) (since start place answers)
      program (opening (arc_value attrs)) choice instructions

-- the result of a worker's run by these events
abbrev pub HasResult : WorldState → ℕ → Worker → List Event → List Answer → ℕ → ℕ → ℕ
    → Type 0
HasResult w k Idle events answers number choice instructions = ⊥
HasResult w k (Running n program s) events answers number choice instructions =
    (number ≡ n) × EndsDuring w k events answers program s choice instructions
HasResult w k (Ended n program a c m) events answers number choice instructions =
    (number ≡ n) × (choice ≡ c) × (instructions ≡ m)

-- the number, the choice and the instructions are those of the run that the worker has before the
-- events: no run of the worker is started before the place
pub record IsEarlierRun (w : WorldState) (k : ℕ) (events : List Event) (answers : List Answer)
    (place number choice instructions : ℕ) : Type 0 where
  pub worker : Worker
  pub is_worker : IsWorker w k worker
  pub none : HasNoStart k events answers place
  pub comes : HasResult w k worker (take place events) (take place answers)
      number choice instructions

-- the result of a Finish is that of its worker's own run: of the latest Start, or the earlier one
abbrev pub FinishesItsRun : Type 0
FinishesItsRun = (w v : WorldState) (k place number choice instructions : ℕ)
    (events : List Event) (answers : List Answer)
    → Plays w events answers v → IsFinished k events answers place number choice instructions
    → IsOwnRun w k events answers place number choice instructions
    ⊎ IsEarlierRun w k events answers place number choice instructions

-- if the worker is idle before the events, that is the run of the latest Start
abbrev pub FinishesStartedRun : Type 0
FinishesStartedRun = (w v : WorldState) (k place number choice instructions : ℕ)
    (events : List Event) (answers : List Answer)
    → IsWorker w k Idle → Plays w events answers v
    → IsFinished k events answers place number choice instructions
    → IsOwnRun w k events answers place number choice instructions

-- in a safe world this run chose, in time, 0 or the number of a release of its app in its ruleset
abbrev pub ChoosesItsRelease : Type 0
ChoosesItsRelease = (w : WorldState) (k place number choice instructions : ℕ)
    (events : List Event) (answers : List Answer)
    → IsSafeWorld w → (run : IsOwnRun w k events answers place number choice instructions)
    → (choice ≤ length run.offered.app.releases) × (instructions ≤ length run.program.code)
