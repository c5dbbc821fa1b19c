-- Runs that shared the counters are runs of one world, which changes the counters in the order of
-- their history.
use Rattle.std.specs.Prelude.{◌≡◌, ℕ, List, [], ◌∷◌, All, length, map, get_or}
use Rattle.cells.specs.Events.{AreCells}
use Rattle.ruleset.specs.Rules.{Rules, IsRuleset}
use Rattle.shared_cells.specs.History.{Entry, all_events, events_by, IsLegal}
use Rattle.world.specs.Happens.{Answer, Plays}
use Rattle.world.specs.Safe.{IsSafeWorld}
use Rattle.world.specs.World.{WorldState, opened_world}
use Rattle.world.specs.declared.event.Event.{Event}
use Rattle.world.specs.declared.event.Event.TheVariants.{Start, Step, Finish, Swap}
use Rattle.thread_laws.specs.Entries.{entries_of}
use Rattle.thread_laws.specs.Runs.{AppRun, IsRunUnder, lists_of_runs, at_start, as_far}

-- the history, a linearization without real-time order, is legal from counters with these opening
-- values, and leaves these last ones. Each of its events belongs to one of the runs, and the events
-- of a run are those that belong to it, in their order. Runs are numbered by their places in the
-- list
pub record IsSharedBy (runs : List AppRun) (opening : List ℕ) (history : List Entry)
    (values : List ℕ) : Type 0 where
  pub legal : IsLegal opening (all_events history) values
  pub own : (k : ℕ) → events_by k history ≡ get_or (lists_of_runs runs) k []

-- ---- the world of these runs

-- a worker for each run, which has started it under its ruleset; no counter has been touched
abbrev pub all_at_start : List Rules → List AppRun → List ℕ → WorldState
all_at_start published runs opening = record {
  rulesets = published;
  cells = opening;
  workers = map at_start runs;
}

-- each worker has taken its run as far as it got, and the counters have these values
abbrev pub all_as_far : List Rules → List AppRun → List ℕ → WorldState
all_as_far published runs values = record {
  rulesets = published;
  cells = values;
  workers = map as_far runs;
}

abbrev pub OpensRuns : Event → Type 0
OpensRuns (Start k attrs) = Unit {0}
OpensRuns (Swap rules) = Unit {0}
OpensRuns (Step k) = ⊥
OpensRuns (Finish k) = ⊥

abbrev pub IsStepEvent : Event → Type 0
IsStepEvent (Step k) = Unit {0}
IsStepEvent (Start k attrs) = ⊥
IsStepEvent (Finish k) = ⊥
IsStepEvent (Swap rules) = ⊥

-- a run of the world from one world to another, by events of one kind
pub record WorldRun (OfKind : Event → Type 0) (w v : WorldState) : Type 0 where
  pub events : List Event
  pub answers : List Answer
  pub plays : Plays w events answers v
  pub of_kind : All OfKind events

-- A run of the world, from its opening under the first ruleset, with these values of the counters
-- and an idle worker for each run. Starts and Swaps come first, then Steps. The Steps' events on
-- counters are the history, in its order and each by the worker of its run.
pub record HasOneWorld (first : Rules) (later : List Rules) (runs : List AppRun) (opening : List ℕ)
    (history : List Entry) (values : List ℕ) : Type 0 where
  pub starts :
      WorldRun OpensRuns (opened_world first opening (length runs))
      (all_at_start (first ∷ later) runs opening)
  pub steps :
      WorldRun IsStepEvent (all_at_start (first ∷ later) runs opening)
      (all_as_far (first ∷ later) runs values)
  pub history_is :
      entries_of (all_at_start (first ∷ later) runs opening)
      (all_as_far (first ∷ later) runs values) steps.events steps.answers steps.plays
      ≡ history

-- ---- the laws

-- this is true of every published list, of every list of runs under its rulesets, and of every
-- legal history that these share
abbrev pub OneWorld : Type 0
OneWorld = (first : Rules) (later : List Rules) (runs : List AppRun) (opening : List ℕ)
    (history : List Entry) (values : List ℕ)
    → All IsRuleset (first ∷ later) → All (IsRunUnder (first ∷ later)) runs
    → IsSharedBy runs opening history values
    → HasOneWorld first later runs opening history values

-- and the opening world is safe, so all laws of safe worlds apply to it
abbrev pub OpensSafely : Type 0
OpensSafely = (first : Rules) (values : List ℕ) (workers : ℕ) → IsRuleset first → AreCells values
    → IsSafeWorld (opened_world first values workers)
