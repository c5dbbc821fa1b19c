-- What one thread could have done instead of many: events one after the other, each with the number
-- of the pass that made it.
use Rattle.std.specs.Prelude.{ℕ, ◌==◌, if◌then◌else◌, List, [], ◌∷◌}
use Rattle.cells.specs.declared.event.CellEvent.{CellEvent}
use Rattle.cells.specs.Events.{IsEvent, AreCells}
use Rattle.cells.specs.Grown.{GrewBy}

-- an event, and the number of its pass
pub record Entry : Type 0 where
  pub pass : ℕ
  pub event : CellEvent

-- the events, whichever passes made them
abbrev pub all_events : List Entry → List CellEvent
all_events [] = []
all_events (x ∷ history) = x.event ∷ all_events history

-- the events by one pass, in their order
abbrev pub events_by : ℕ → List Entry → List CellEvent
events_by p [] = []
events_by p (x ∷ history) =
    if x.pass == p then x.event ∷ events_by p history else events_by p history

-- the events are legal from cells with these opening values, and leave these last ones: each
-- replies by the values that earlier events left, and leaves the next ones. With the order of each
-- pass, this is a linearization without real-time order
pub record IsLegal (opening : List ℕ) (made : List CellEvent) (values : List ℕ) : Type 0 where
  pub cells : AreCells opening
  pub grown : GrewBy IsEvent opening made values
