-- The cells and a pass, which is a ghost token, in contracts, and what is known once the cells are
-- closed.
use Rattle.std.specs.Prelude.{◌≡◌, ℕ, List, [], ◌∷◌, ◌++◌, All, length, map, flat_map, get_or}
use Rattle.atomic_table.specs.Seated.{TableId}
use Rattle.cells.specs.declared.event.CellEvent.{CellEvent}
use Rattle.cells.specs.Grown.{GrewBy}
use Rattle.shared_cells.specs.History.{Entry, all_events, events_by, IsLegal}

-- the cells: the table of their words, how many passes were made to them, and their opening values
pub record CellsView : Type 0 where
  pub table : TableId
  pub passes : ℕ
  pub opening : List ℕ

-- a pass: the table of its cells, and the events that it made, oldest first
pub record PassView : Type 0 where
  pub table : TableId
  pub events : List CellEvent

-- the pass belongs to these cells
abbrev pub IsPassOf : CellsView → PassView → Type 0
IsPassOf cells pass = pass.table ≡ cells.table

-- cells that are closed: which they were, the passes that they were closed with, and the last value
-- of each cell
pub record ClosedView : Type 0 where
  pub cells : CellsView
  pub passes : List PassView
  pub values : List ℕ

-- they are these cells, closed with all passes that were made to them
pub record AreClosed (cells : CellsView) (closed : ClosedView) : Type 0 where
  pub same : closed.cells ≡ cells
  pub all : length closed.passes ≡ cells.passes
  pub own : All (IsPassOf cells) closed.passes

-- the pass belongs to the cells of this table, and has made no event
pub record IsNewPass (table : TableId) (pass : PassView) : Type 0 where
  pub of : pass.table ≡ table
  pub none : pass.events ≡ []

-- the pass gained this event, at the end
abbrev pub Gained : PassView → CellEvent → PassView → Type 0
Gained old e new = new ≡ record { table = old.table; events = old.events ++ e ∷ [] }

-- so a pass that gained several events has them after its earlier ones
abbrev pub PassesGainLists : Type 0
PassesGainLists = (old : PassView) (made : List CellEvent) (new : PassView)
    → GrewBy Gained old made new
    → new ≡ record { table = old.table; events = old.events ++ made }

-- what each pass did
abbrev pub lists_of : List PassView → List (List CellEvent)
lists_of = map (λ pass. pass.events)

-- all that the passes did, one list after the other
abbrev pub events_made : List PassView → List CellEvent
events_made = flat_map (λ pass. pass.events)

-- The values are those after one legal history. In it the events of a pass are those that the pass
-- made, each once and in their order, and there are no others. Passes are numbered by their places
-- in this list.
pub record AreLeftBy (opening : List ℕ) (passes : List PassView) (values : List ℕ) : Type 0 where
  pub history : List Entry
  pub legal : IsLegal opening (all_events history) values
  pub own : (p : ℕ) → events_by p history ≡ get_or (lists_of passes) p []
