-- What a seat represents, what it keeps, and what a step and a finish do to it.
use Rattle.std.specs.Prelude.{◌≡◌, ℕ, ◌+◌, ◌≤◌, List, length, Some, None, false, Result, Ok, Err}
use Rattle.attrs.specs.Attributes.{Attributes, AreShort}
use Rattle.bpf_semantics.specs.State.{State, opening}
use Rattle.bpf_semantics.specs.Step.{step}
use Rattle.bpf_semantics.specs.Outcome.{Going, Done}
use Rattle.bpf_semantics.specs.Program.{ShapedProgram}
use Rattle.bpf_verify.specs.Covers.{EndsWell}
use Rattle.bpf_machine.specs.Represents.{Held}
use Rattle.bpf_machine.specs.Represents as machine
use Rattle.ruleset.specs.Rules.{Rules, Offers, OffersNone, appid_of}
use Rattle.world.specs.World.{Worker, Idle, Running, Ended, IsRunning, IsIdle, HasProgram}
use Rattle.world.specs.Happens.{Answer}
use Rattle.world.specs.Counters.{answered, cells_after}
use Rattle.world.specs.declared.seat.Seat.{Seat}
use Rattle.world.specs.declared.seat.Seat.TheVariants.{Empty, Taken}
use Rattle.world.specs.declared.event.Effect.TheVariants as effect
use Rattle.world.specs.declared.event.WorldFault.{WorldFault}
use Rattle.world.specs.declared.event.WorldFault.TheVariants as fault

-- a seat's run represents a worker's run that continues
pub record ContinuesAs (run : Held) (held number : ℕ) (program : ShapedProgram)
    (s : State) : Type 0 where
  pub number_is : held ≡ number
  pub program_is : run.program ≡ program
  pub represents : machine.RunRepresents run s

-- a seat's run and its choice represent a worker's run that has ended; its last instruction also
-- counts
pub record EndedAs (run : Held) (held chosen number : ℕ) (program : ShapedProgram) (a : Attributes)
    (choice instructions : ℕ) : Type 0 where
  pub number_is : held ≡ number
  pub program_is : run.program ≡ program
  pub attributes_are : run.attributes ≡ a
  pub choice_is : chosen ≡ choice
  pub count_is : run.count + 1 ≡ instructions

abbrev pub SeatRepresents : Seat → Worker → Type 0
SeatRepresents Empty Idle = Unit {0}
SeatRepresents (Taken run held None) (Running number program s) =
    ContinuesAs run held number program s
SeatRepresents (Taken run held (Some chosen)) (Ended number program a choice instructions) =
    EndedAs run held chosen number program a choice instructions
SeatRepresents seat worker = ⊥

-- a run that continues, represents a state, and ends well from each state that it represents
pub record GoesWell (run : Held) : Type 0 where
  pub going : run.is_done ≡ false
  pub represents : (s : State) × machine.RunRepresents run s
  pub ends : (s : State) → machine.RunRepresents run s → EndsWell run.program s

-- a run that has ended with its choice, none or a release, in time
pub record EndedWithChoice (run : Held) (choice : ℕ) : Type 0 where
  pub release : choice ≤ run.program.shape.releases
  pub short : run.count + 1 ≤ length run.program.code

abbrev pub IsSoundSeat : Seat → Type 0
IsSoundSeat Empty = Unit {0}
IsSoundSeat (Taken run number None) = GoesWell run
IsSoundSeat (Taken run number (Some choice)) = EndedWithChoice run choice

-- the program of a seat's run is the one that its ruleset has for the app
abbrev pub SeatIsOffered : List Rules → Seat → Type 0
SeatIsOffered rulesets Empty = Unit {0}
SeatIsOffered rulesets (Taken run number choice) =
    HasProgram rulesets number (appid_of run.attributes) run.program

-- ---- the worker after an event, and the event's result

-- its run continues, with the reply of a counter if it accesses one
pub record WorkerGoesOn (old new : List ℕ) (number : ℕ) (program : ShapedProgram) (s : State)
    (y : Worker) : Type 0 where
  pub to : State
  pub goes_on : answered old (step program s) ≡ Going to
  pub cells_are : new ≡ cells_after old (step program s)
  pub after : y ≡ Running number program to

-- its run ends with a choice
pub record WorkerEnds (old new : List ℕ) (number : ℕ) (program : ShapedProgram) (s : State)
    (choice : ℕ) (y : Worker) : Type 0 where
  pub ends : step program s ≡ Done choice
  pub cells_are : new ≡ old
  pub after : y ≡ Ended number program s.attributes choice (s.count + 1)

abbrev pub WorkerSteps : List ℕ → Worker → Answer → List ℕ → Worker → Type 0
WorkerSteps old (Running number program s) (Ok effect.Stepped) new y =
    WorkerGoesOn old new number program s y
WorkerSteps old (Running number program s) (Ok (effect.Ended choice)) new y =
    WorkerEnds old new number program s choice y
WorkerSteps old x (Err fault.Idle) new y = (¬ IsRunning x) × (new ≡ old) × (y ≡ x)
WorkerSteps old x answer new y = ⊥

-- it returns the result of its run, and is idle
pub record WorkerReturns (number choice instructions answered chosen counted : ℕ)
    (y : Worker) : Type 0 where
  pub number_is : answered ≡ number
  pub choice_is : chosen ≡ choice
  pub count_is : counted ≡ instructions
  pub after : y ≡ Idle

abbrev pub WorkerFinishes : Worker → Answer → Worker → Type 0
WorkerFinishes (Ended number program a choice instructions)
    (Ok (effect.Finished chosen counted answered)) y =
    WorkerReturns number choice instructions answered chosen counted y
WorkerFinishes x (Err fault.Idle) y = IsIdle x × (y ≡ x)
WorkerFinishes x (Err fault.NotDone) y = IsRunning x × (y ≡ x)
WorkerFinishes x answer y = ⊥

-- ---- the same for a seat, from every worker that it represents

-- the counters had the values `old`, and have the values `new`
abbrev pub SeatSteps : List ℕ → Seat → Answer → List ℕ → Seat → Type 0
SeatSteps old before answer new after = (x : Worker) → SeatRepresents before x
    → (y : Worker) × WorkerSteps old x answer new y × SeatRepresents after y

abbrev pub SeatFinishes : Seat → Answer → Seat → Type 0
SeatFinishes before answer after = (x : Worker) → SeatRepresents before x
    → (y : Worker) × WorkerFinishes x answer y × SeatRepresents after y

-- the result of a finish: then the worker is idle, or as it was
abbrev pub SeatReturns : Seat → Answer → Type 0
SeatReturns seat (Ok e) = (x : Worker) → SeatRepresents seat x → WorkerFinishes x (Ok e) Idle
SeatReturns seat (Err e) = (x : Worker) → SeatRepresents seat x → WorkerFinishes x (Err e) x

-- for any rulesets: if the run's program is its ruleset's program for the app, it stays so
abbrev pub StaysOffered : Seat → Seat → Type 0
StaysOffered before after = (rulesets : List Rules)
    → SeatIsOffered rulesets before → SeatIsOffered rulesets after

-- ---- how a run is opened

-- the ruleset's program for the app, at its opening state
pub record IsOpened (rules : Rules) (a : Attributes) (run : Held) : Type 0 where
  pub offered : Offers rules (appid_of a) run.program
  pub texts_are_short : AreShort a.texts
  pub attributes_are : run.attributes ≡ a
  pub represents : machine.RunRepresents run (opening a)
  pub goes : GoesWell run

-- refused if the ruleset doesn't have the app, or if an allocation fails
abbrev pub Opens : Rules → Attributes → Result Held WorldFault → Type 0
Opens rules a (Ok run) = IsOpened rules a run
Opens rules a (Err fault.NoApp) = OffersNone rules (appid_of a)
Opens rules a (Err fault.Memory) = (program : ShapedProgram) × Offers rules (appid_of a) program
Opens rules a (Err e) = ⊥
