-- How the counters are read: by a load of each cell, array after array, with a line for each cell
-- that isn't 0. The value of each cell is that at the moment of its load.
use Rattle.std.specs.Prelude.{◌≡◌, ℕ, ◌+◌, List, [], ◌∷◌, ◌++◌}
use Rattle.cells.specs.Events.{event}
use Rattle.cells.specs.declared.array.CellArray.{CellArray}
use Rattle.cells.specs.declared.event.CellEvent.{CellEvent}
use Rattle.cells.specs.declared.event.CellOp.TheVariants.{Load}
use Rattle.operator.specs.Texts.{cell_text}

-- the first cells of an array, as many as this number, with the events of their loads and their
-- lines
pub data ReadsCells (array : CellArray) : ℕ → List CellEvent → List ℕ → Type 0 where
  no_cell : ReadsCells array 0 [] []
  one_cell : {index : ℕ} {events : List CellEvent} {lines : List ℕ} (value : ℕ)
      → ReadsCells array index events lines
      → ReadsCells array (index + 1) (events ++ event (array.base + index) Load value ∷ [])
      (lines ++ cell_text array index value)

-- array after array
pub data ReadsArrays : List CellArray → List CellEvent → List ℕ → Type 0 where
  no_array : ReadsArrays [] [] []
  one_array : {arrays : List CellArray} {before events : List CellEvent} {lines more : List ℕ}
      {array : CellArray}
      → ReadsArrays arrays before lines → ReadsCells array array.length events more
      → ReadsArrays (arrays ++ array ∷ []) (before ++ events) (lines ++ more)

abbrev pub IsLoad : CellEvent → Type 0
IsLoad e = e.op ≡ Load

-- a text grew by the lines of what the events read
pub record Describes (Reads : List CellEvent → List ℕ → Type 0) (old new : List ℕ)
    (events : List CellEvent) : Type 0 where
  pub lines : List ℕ
  pub written : new ≡ old ++ lines
  pub reads : Reads events lines
