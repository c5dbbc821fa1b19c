-- The arrays of a shape by their names; the first one counts if two have the same name.
use Rattle.std.specs.Prelude.{ℕ, ◌+◌, Option, Some, None}
use Rattle.cells.specs.declared.array.CellArray.{CellArray}
pub use Rattle.cells.specs.Directory.{array_named}

-- the number of an array's cell; 0 without an array
abbrev pub cell_of : Option CellArray → (index : ℕ) → ℕ
cell_of (Some a) index = a.base + index
cell_of None index = 0

-- how many takes an array grants; 0 without a quota
abbrev pub granted : Option ℕ → ℕ
granted (Some quota) = quota
granted None = 0

abbrev pub quota_of : Option CellArray → ℕ
quota_of (Some a) = granted a.quota
quota_of None = 0
