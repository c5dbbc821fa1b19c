-- A list of declarations has one outcome.
use Rattle.std.specs.Prelude.{◌≡◌, ◌≢◌, ℕ, List}
use Rattle.cells.specs.declared.array.ArrayNo.{ArrayNo}
use Rattle.cells.specs.declared.array.CellArray.{CellArray}
use Rattle.cells.specs.declared.cells_fault.CellsFault.{CellsFault}
use Rattle.cells.specs.declared.cells_fault.CellsFault.TheVariants.{Memory}
use Rattle.cells.specs.Directory.{Declaration, HasDistinctNames}
use Rattle.declarations.specs.Order.{AreDeclared, IsRefusedArray}

-- the declarations give arrays with the same numbers in one directory, or one of them is the first
-- that is refused, with one fault; except for out of memory
pub record AreDeclaredOneWay (old : List CellArray) (ds : List Declaration) : Type 0 where
  pub arrays : (numbers others : List ArrayNo) (new last : List CellArray)
      → AreDeclared old ds numbers new → AreDeclared old ds others last
      → (numbers ≡ others) × (new ≡ last)
  pub refused : (number other : ℕ) (e f : CellsFault) (new last : List CellArray)
      → IsRefusedArray old ds number e new → IsRefusedArray old ds other f last
      → e ≢ Memory → f ≢ Memory → (number ≡ other) × (e ≡ f)
  pub either : (numbers : List ArrayNo) (number : ℕ) (e : CellsFault) (new last : List CellArray)
      → AreDeclared old ds numbers new → IsRefusedArray old ds number e last → e ≡ Memory

-- if the names of the directory are distinct, they do
abbrev pub ListsDeclareOneWay : Type 0
ListsDeclareOneWay = (old : List CellArray) (ds : List Declaration) → HasDistinctNames old
    → AreDeclaredOneWay old ds
