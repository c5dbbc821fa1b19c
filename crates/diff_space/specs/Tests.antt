-- How a test is a comparison of its dimension's number, and which cell a take is about.
use Rattle.std.specs.Prelude.{◌≡◌, ℕ, ◌+◌, ◌<◌, List, Some, None, true, slice_get}
use Rattle.std.specs.Ordering.{nat_cmp}
use Rattle.attrs.specs.Attributes.{Attributes}
use Rattle.cells.specs.Arrays.{AppShape}
use Rattle.cells.specs.declared.array.CellArray.{CellArray}
use Rattle.rule_lang.specs.Meaning.{allows, cell_used, test_holds}
use Rattle.rule_lang.specs.Shapes.{array_named}
use Rattle.rule_lang.specs.declared.test.Test.{Test}
use Rattle.diff_space.specs.declared.coordinate.Coordinate.{Coordinate}
use Rattle.diff_space.specs.declared.coordinate.Coordinate.TheVariants as coordinate
use Rattle.diff_space.specs.declared.test_line.NumberComparison.{NumberComparison}
use Rattle.diff_space.specs.Coordinates.{Dimension, number_in}
use Rattle.diff_space.specs.Machines.{State, declared}
use Rattle.diff_space.specs.Numbers.{decides}
use Rattle.diff_space.specs.Scopes.{IsWithin, Scope}

-- the test uses no cell, and holds if the machine's number compares so
pub record ComparesNumber (of : Coordinate) (texts : List (List ℕ)) (t : Test)
    (by : NumberComparison)
    : Type 0 where
  pub no_cell : (s : AppShape) → cell_used s t ≡ None
  pub holds : (s : AppShape) (x : Scope) (a : Attributes) (g : State) → IsWithin x a g
      → test_holds a s 0 t ≡ allows by.comparison (nat_cmp (number_in of texts a g) by.number)

-- the same for a dimension at a place, whose cells decide it
pub record ComparesNumberAt (ds : List Dimension) (at : ℕ) (t : Test) (by : NumberComparison)
    : Type 0 where
  pub dimension : Dimension
  pub is_at : slice_get ds at ≡ Some dimension
  pub compared : ComparesNumber dimension.of dimension.texts t by
  pub decided : decides dimension.starts dimension.last by.comparison by.number ≡ true

-- the number says how many takes this cell of an array grants
abbrev pub IsGrantOf : Coordinate → CellArray → (index : ℕ) → Type 0
IsGrantOf (coordinate.Takes own place) array index =
    (declared own ≡ declared array) × (place ≡ index)
IsGrantOf of array index = ⊥

-- the number of the dimension at a place says how many takes this cell of the first array with this
-- name grants
pub record IsGrantAt (ds : List Dimension) (at : ℕ) (s : AppShape) (name : List ℕ) (index cell : ℕ)
    : Type 0 where
  pub dimension : Dimension
  pub is_at : slice_get ds at ≡ Some dimension
  pub array : CellArray
  pub is_named : array_named name s.arrays ≡ Some array
  pub within : index < array.length
  pub grants : IsGrantOf dimension.of array index
  pub its_cell : cell ≡ array.base + index
