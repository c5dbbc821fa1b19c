-- Declarations in order: the directory after them, and the first that is refused.
use Rattle.std.specs.Prelude.{◌≡◌, ℕ, ◌+◌, List, [], ◌∷◌, ◌++◌, take, slice_get, Some}
use Rattle.cells.specs.declared.array.ArrayNo.{ArrayNo}
use Rattle.cells.specs.declared.array.CellArray.{CellArray}
use Rattle.cells.specs.declared.cells_fault.CellsFault.{CellsFault}
use Rattle.cells.specs.Directory.{Declaration, Declares, IsRefusedDeclaration}

-- these declarations give arrays with these numbers, and this directory after them
pub data AreDeclared : (old : List CellArray) → List Declaration → List ArrayNo
    → (new : List CellArray) → Type 0 where
  none : {old : List CellArray} → AreDeclared old [] [] old
  -- the first one, and the others in the directory after it
  next : {old between new : List CellArray} {d : Declaration} {ds : List Declaration} {n : ArrayNo}
      {numbers : List ArrayNo} → Declares d old n.number between
      → AreDeclared between ds numbers new → AreDeclared old (d ∷ ds) (n ∷ numbers) new

-- the declaration with this number, from 1, is refused, and those before it are declared
pub record IsRefusedArray (old : List CellArray) (ds : List Declaration) (number : ℕ)
    (fault : CellsFault) (new : List CellArray) : Type 0 where
  pub before : ℕ
  pub number_is : number ≡ before + 1
  pub numbers : List ArrayNo
  pub declared : AreDeclared old (take before ds) numbers new
  pub d : Declaration
  pub declaration_is : slice_get ds before ≡ Some d
  pub refused : IsRefusedDeclaration d new fault

-- one more declaration gives one more number
abbrev pub DeclaresNext : Declaration → (old new : List CellArray)
    → (before after : List ArrayNo) → Type 0
DeclaresNext d old new before after =
    (no : ArrayNo) × Declares d old no.number new × (after ≡ before ++ no ∷ [])
