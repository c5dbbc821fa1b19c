-- How many places the cells of arrays have.
use Rattle.std.specs.Prelude.{◌≡◌, ℕ, ◌+◌, ◌-◌, ◌^◌, ◌<◌, nat_le, nat_lt, Bool, ◌&&◌}
use Rattle.std.specs.Prelude.{if◌then◌else◌, List, [], ◌∷◌, length, slice_index, Option, Some, None}
use Rattle.cells.specs.declared.array.CellArray.{CellArray}

abbrev pub has_cell : CellArray → ℕ → Bool
has_cell a cell = nat_le a.base cell && nat_lt cell (a.base + a.length)

-- as many as the quota, and none without one
abbrev pub places_of : Option ℕ → ℕ
places_of (Some quota) = quota
places_of None = 0

-- the places of a cell. If no array has it, there may be any number
abbrev pub places_in : List CellArray → (cell : ℕ) → ℕ
places_in [] cell = 2 ^ 64 - 1
places_in (a ∷ arrays) cell =
    if has_cell a cell then places_of a.quota else places_in arrays cell

-- those of each 64-bit cell
pub record ArePlaces (arrays : List CellArray) (places : List ℕ) : Type 0 where
  pub count : length places ≡ 4096
  pub each : (cell : ℕ) → cell < 4096 → slice_index places cell ≡ places_in arrays cell
