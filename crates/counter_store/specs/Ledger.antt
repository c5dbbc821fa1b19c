-- The numbers that a file has for cells, and the ceilings that were raised.
use Rattle.std.specs.Prelude.{◌≡◌, ℕ, ◌+◌, ◌-◌, ◌^◌, ◌<◌, ◌≤◌, min, List, All, slice_index}
use Rattle.atomic_table.specs.Seated.{TableId}
use Rattle.cells.specs.Events.{AreCells}
use Rattle.cells.specs.declared.array.CellArray.{CellArray}
use Rattle.ceilings.specs.Seats.{IsAt, SeatView}
use Rattle.ceilings.specs.declared.rule.Raised.{Raised}
use Rattle.kept_cells.specs.Tickets.{limit_word}
use Rattle.counter_store.specs.Places.{ArePlaces, places_in}

-- the ceilings, and those that were raised; the arrays, the numbers of their cells, and those of
-- the next commit
pub record LedgerView : Type 0 where
  pub ceilings : TableId
  pub raised : List Raised
  pub arrays : List CellArray
  pub numbers : List ℕ
  pub next : List ℕ

-- a ceiling: each place below it is below the cell's number. Or a limit, and from there on the cell
-- has no places
pub record IsBacked (arrays : List CellArray) (numbers : List ℕ) (raised : Raised) : Type 0 where
  pub word : raised.cell < 8192
  pub ceiling : raised.cell < 4096
      → min (places_in arrays raised.cell) raised.number ≤ slice_index numbers raised.cell
  pub limit : (cell : ℕ) → raised.cell ≡ limit_word cell
      → places_in arrays cell + raised.number ≤ 2 ^ 64 - 1

-- no number is lower
abbrev pub AreNotLower : (old new : List ℕ) → Type 0
AreNotLower old new = (cell : ℕ) → slice_index old cell ≤ slice_index new cell

-- no number of a cell with places is lower
abbrev pub KeepsPlaces : (places : ℕ → ℕ) → (old new : List ℕ) → Type 0
KeepsPlaces places old new =
    (cell : ℕ) → cell < 4096 → 0 < places cell → slice_index old cell ≤ slice_index new cell

-- The numbers of a commit, from those of the commit before: no cell with places has a lower one,
-- and all others have their present values
pub record AreNext (places : ℕ → ℕ) (present old new : List ℕ) : Type 0 where
  pub not_lower : KeepsPlaces places old new
  pub plain : (cell : ℕ) → cell < 4096 → places cell ≡ 0
      → slice_index new cell ≡ slice_index present cell
  pub narrow : (cell : ℕ) → 4096 ≤ cell → cell < 8192
      → slice_index new cell ≡ slice_index present cell

pub record IsLedger (ceilings : TableId) (writer : SeatView) (arrays : List CellArray)
    (places numbers next : List ℕ) : Type 0 where
  pub own : IsAt ceilings writer
  pub places_are : ArePlaces arrays places
  pub cells : AreCells numbers
  pub next_cells : AreCells next
  pub backed : All (IsBacked arrays numbers) writer.raised
