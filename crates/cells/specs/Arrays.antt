-- Arrays of cells, and the shape of an app: how many releases its programs choose among, and the
-- arrays that they use.
use Rattle.std.specs.Prelude.{◌≡◌, ℕ, ◌+◌, ◌^◌, ◌<◌, ◌≤◌, ◌⊎◌, Option, Some}
use Rattle.std.specs.Prelude.{List, Contains, All, map, slice_get}
use Rattle.cells.specs.declared.array.ArrayNo.{ArrayNo}
use Rattle.cells.specs.declared.array.CellWidth.{CellWidth}
use Rattle.cells.specs.declared.array.CellWidth.TheVariants.{Bits32, Bits64}
use Rattle.cells.specs.declared.array.CellArray.{CellArray}

-- the first of the 4096 cells of a width
abbrev pub first_cell : CellWidth → ℕ
first_cell Bits64 = 0
first_cell Bits32 = 4096

-- only arrays of 64-bit cells have a quota
pub record IsQuota (w : CellWidth) (q : ℕ) : Type 0 where
  pub width : w ≡ Bits64
  pub from : 1 ≤ q
  pub to : q < 2 ^ 63

-- the ranges of an array's values
pub record HasRanges (w : CellWidth) (size : ℕ) (quota : Option ℕ) : Type 0 where
  pub from : 1 ≤ size
  pub to : size ≤ 4096
  pub quota_is : (q : ℕ) → quota ≡ Some q → IsQuota w q

-- the array has these ranges, and is within the cells of its width
pub record IsArray (a : CellArray) : Type 0 where
  pub ranges : HasRanges a.width a.length a.quota
  pub from : first_cell a.width ≤ a.base
  pub to : a.base + a.length ≤ first_cell a.width + 4096

-- the cell is one of the array's
abbrev pub HasCell : CellArray → ℕ → Type 0
HasCell a c = (a.base ≤ c) × (c < a.base + a.length)

abbrev pub SharesNoCell : CellArray → CellArray → Type 0
SharesNoCell a b = (c : ℕ) → HasCell a c → ¬ HasCell b c

-- the shape of an app
pub record AppShape : Type 0 where
  pub releases : ℕ
  pub arrays : List CellArray

-- what a `Shape` keeps
pub record IsShape (s : AppShape) : Type 0 where
  pub releases : s.releases ≤ 64
  pub arrays : All IsArray s.arrays
  pub apart : (a b : CellArray)
      → Contains s.arrays a → Contains s.arrays b → (a ≡ b) ⊎ SharesNoCell a b

-- the arrays are those of these numbers in the directory, in this order
abbrev pub AreNumbered : List CellArray → List ArrayNo → List CellArray → Type 0
AreNumbered directory numbers arrays =
    map (λ a. Some a) arrays ≡ map (λ n. slice_get directory n.number) numbers
