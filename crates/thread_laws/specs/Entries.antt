-- What a run of the world does to the counters, each event with the number of its worker.
use Rattle.std.specs.Prelude.{◌≡◌, ℕ, List, [], ◌∷◌, ◌++◌, map, slice_get}
use Rattle.cells.specs.declared.event.CellEvent.{CellEvent}
use Rattle.shared_cells.specs.History.{Entry, events_by}
use Rattle.world.specs.Happens.{Answer, Plays}
use Rattle.world.specs.History.{accesses_of, made_by}
use Rattle.world.specs.World.{WorldState}
use Rattle.world.specs.declared.event.Event.{Event}
use Rattle.world.specs.declared.event.Event.TheVariants.{Start, Step, Finish, Swap}

-- an event in a history, by the pass, the run or the worker of this number
abbrev pub entry_by : ℕ → CellEvent → Entry
entry_by k e = record { pass = k; event = e }

-- the events on counters of one event of the world: only a Step has any, by its worker
abbrev pub entries_at : WorldState → Event → List Entry
entries_at w (Step k) = map (entry_by k) (accesses_of w.cells (slice_get w.workers k))
entries_at w (Start k attrs) = []
entries_at w (Finish k) = []
entries_at w (Swap rules) = []

-- those of all events of a run of the world, in order
abbrev pub entries_of : (w v : WorldState) (events : List Event) (answers : List Answer)
    → Plays w events answers v → List Entry
entries_of w v [] [] plays = []
entries_of w v (e ∷ es) (r ∷ rs) plays = entries_at w e ++ entries_of plays.0 v es rs plays.2
entries_of w v [] (r ∷ rs) plays = []
entries_of w v (e ∷ es) [] plays = []

-- the events with a worker's number are what the worker's Steps make
abbrev pub EntriesAreMade : Type 0
EntriesAreMade = (k : ℕ) (w v : WorldState) (events : List Event) (answers : List Answer)
    (plays : Plays w events answers v)
    → events_by k (entries_of w v events answers plays) ≡ made_by k w v events answers plays
