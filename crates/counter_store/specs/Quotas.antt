-- What the ledger means for quotas.
use Rattle.std.specs.Prelude.{◌≡◌, ℕ, ◌<◌, ◌≤◌, IsTrue, List, All, Contains, slice_index, Some}
use Rattle.cells.specs.declared.array.CellArray.{CellArray}
use Rattle.cells.specs.declared.event.CellEvent.{CellEvent}
use Rattle.cells.specs.Arrays.{HasCell}
use Rattle.cells.specs.Directory.{IsDirectory}
use Rattle.ceilings.specs.declared.rule.Raised.{Raised}
use Rattle.ceilings.specs.Rule.{raised_in}
use Rattle.kept_cells.specs.Tickets.{AreCovered, IsPast}
use Rattle.shared_cells.specs.Quotas.{adds_one}
use Rattle.counter_store.specs.Ledger.{IsBacked}

-- a place of a quota that is below a ceiling is below the cell's number, and none is past the limit
abbrev pub PlacesAreStored : Type 0
PlacesAreStored = (arrays : List CellArray) (numbers : List ℕ) (raised : List Raised)
    (a : CellArray) (cell quota place : ℕ)
    → IsDirectory arrays → Contains arrays a → HasCell a cell → a.quota ≡ Some quota
    → All (IsBacked arrays numbers) raised → place < quota
    → (raised_in cell raised ≤ place → IsPast raised cell place)
    → place < slice_index numbers cell

-- each place that the event takes, of a quota, is below the number of its cell
abbrev pub IsStored : List CellArray → (numbers : List ℕ) → CellEvent → Type 0
IsStored arrays numbers e = (a : CellArray) (quota : ℕ)
    → Contains arrays a → HasCell a e.cell → a.quota ≡ Some quota
    → IsTrue (adds_one e.op) → e.reply < quota → e.reply < slice_index numbers e.cell

-- so it is of all events that these ceilings cover
abbrev pub CoveredAreStored : List CellArray → (numbers : List ℕ) → List Raised → Type 0
CoveredAreStored arrays numbers raised =
    (events : List CellEvent) → AreCovered raised events → All (IsStored arrays numbers) events
