-- Arrays of a directory share no cells, and a directory keeps the arrays that it has.
use Rattle.std.specs.Prelude.{◌≡◌, ℕ, ◌<◌, List, All, Contains, IsSome}
use mathlib.Core.List.{IsPrefix}
use Rattle.cells.specs.declared.array.ArrayNo.{ArrayNo}
use Rattle.cells.specs.declared.array.CellArray.{CellArray}
use Rattle.cells.specs.Arrays.{HasCell, AreNumbered}
use Rattle.cells.specs.Directory.{HasDistinctNames, IsDirectory, HasArray}

-- ---- their cells

-- two arrays of a directory that have a cell in common are equal
abbrev pub ArraysLieApart : Type 0
ArraysLieApart = (arrays : List CellArray) (a b : CellArray) (cell : ℕ) → IsDirectory arrays
    → Contains arrays a → Contains arrays b → HasCell a cell → HasCell b cell → a ≡ b

-- a cell of an array with a quota is one of the first 4096, which have 64 bits
abbrev pub QuotasAreWide : Type 0
QuotasAreWide = (arrays : List CellArray) (a : CellArray) (cell : ℕ) → IsDirectory arrays
    → Contains arrays a → IsSome a.quota → HasCell a cell → cell < 4096

-- ---- which arrays a directory has

-- an array that is found by its name in a directory is one of its arrays
abbrev pub NamedArraysAreThere : Type 0
NamedArraysAreThere =
    (arrays : List CellArray) (a : CellArray) → HasArray arrays a → Contains arrays a

-- and each array that was taken from it by a number is found by its name
abbrev pub NumberedArraysAreNamed : Type 0
NumberedArraysAreNamed =
    (directory : List CellArray) (numbers : List ArrayNo) (arrays : List CellArray)
    → HasDistinctNames directory → AreNumbered directory numbers arrays
    → All (HasArray directory) arrays

-- if one directory is a prefix of another, the other has all its arrays
abbrev pub ArraysPreserved : Type 0
ArraysPreserved = (old new : List CellArray) (a : CellArray) → IsPrefix old new → HasArray old a
    → HasArray new a
