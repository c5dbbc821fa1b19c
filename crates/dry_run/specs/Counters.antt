-- Counters with given values of cells, each named by its array and index.
use Rattle.std.specs.Prelude.{◌≡◌, ℕ, ◌+◌, List, [], ◌∷◌, slice_set, nat_lt, if◌then◌else◌}
use Rattle.std.specs.Prelude.{Option, Some, None, option_and_then, unwrap_or}
use Rattle.cells.specs.Directory.{array_named}
use Rattle.cells.specs.Events.{AreZeros, limit}
use Rattle.cells.specs.declared.array.CellArray.{CellArray}
use Rattle.cell_assignments.specs.Assignments.{Assignment}

-- the cell with this number, of 8192
abbrev pub cell_at : ℕ → Option ℕ
cell_at number = if nat_lt number 8192 then Some number else None

-- the cell with an index in an array, if the array has it
abbrev pub cell_in : ℕ → Option CellArray → Option ℕ
cell_in index (Some a) = if nat_lt index a.length then cell_at (a.base + index) else None
cell_in index None = None

-- the given cell, if the arrays have it
abbrev pub assigned_cell : List CellArray → Assignment → Option ℕ
assigned_cell arrays assignment = cell_in assignment.index (array_named assignment.array arrays)

-- the counters with a cell set to a value, if the value fits
abbrev pub with_value : (counters : List ℕ) → (value cell : ℕ) → Option (List ℕ)
with_value counters value cell =
    if nat_lt value (limit cell) then Some (slice_set counters cell value) else None

-- the counters with one given cell set
abbrev pub with_cell : List CellArray → (counters : List ℕ) → Assignment → Option (List ℕ)
with_cell arrays counters assignment =
    option_and_then (with_value counters assignment.value) (assigned_cell arrays assignment)

-- the counters with all given cells set; the last value of a cell wins. None if a cell doesn't
-- exist or its value doesn't fit
abbrev pub with_cells : List CellArray → (counters : List ℕ) → List Assignment → Option (List ℕ)
with_cells arrays counters [] = Some counters
with_cells arrays counters (assignment ∷ more) =
    option_and_then (λ set. with_cells arrays set more) (with_cell arrays counters assignment)

-- the counters with those given cells set that exist and whose values fit
abbrev pub with_declared : List CellArray → (counters : List ℕ) → List Assignment → List ℕ
with_declared arrays counters [] = counters
with_declared arrays counters (assignment ∷ more) =
    with_declared arrays (unwrap_or (with_cell arrays counters assignment) counters) more

-- counters that are 0, except for those that a server gave, as far as they exist, and then for
-- those that the command line gave
pub record AreAssigned (arrays : List CellArray) (served words : List Assignment)
    (counters : List ℕ)
    : Type 0 where
  pub zeros : List ℕ
  pub opens : AreZeros 8192 zeros
  pub set : with_cells arrays (with_declared arrays zeros served) words ≡ Some counters
