-- Runs one after the other: the work of a thread that does one run at a time, each to its end.
use Rattle.std.specs.Prelude.{◌≡◌, List, [], ◌++◌, All, flat_map}
use Rattle.cells.specs.declared.event.CellEvent.{CellEvent}
use Rattle.ruleset.specs.Rules.{Rules}
use Rattle.thread_laws.specs.Runs.{AppRun, IsWholeRun}

-- the events of runs, one run after the other
abbrev pub events_in_turn : List AppRun → List CellEvent
events_in_turn = flat_map (λ run. run.events)

-- the events are those of these runs, each under a ruleset of the published list and to its end
pub record AreOfRuns (published : List Rules) (runs : List AppRun) (events : List CellEvent)
    : Type 0 where
  pub each : All (IsWholeRun published) runs
  pub events_are : events ≡ events_in_turn runs

-- the empty list of events is that of no runs
abbrev pub NoneAreOfRuns : Type 0
NoneAreOfRuns = (published : List Rules) → AreOfRuns published [] []

-- the events of two lists of runs, one after the other
abbrev pub OfRunsAppend : Type 0
OfRunsAppend = (published : List Rules) (runs more : List AppRun) (first second : List CellEvent)
    → AreOfRuns published runs first → AreOfRuns published more second
    → AreOfRuns published (runs ++ more) (first ++ second)

-- the same if more is published
abbrev pub OfRunsStay : Type 0
OfRunsStay = (published later : List Rules) (runs : List AppRun) (events : List CellEvent)
    → AreOfRuns published runs events → AreOfRuns (published ++ later) runs events
