-- A declaration has one result.
use Rattle.std.specs.Prelude.{◌≡◌, ◌≢◌, ℕ, List}
use Rattle.cells.specs.declared.array.CellArray.{CellArray}
use Rattle.cells.specs.declared.cells_fault.CellsFault.{CellsFault}
use Rattle.cells.specs.declared.cells_fault.CellsFault.TheVariants.{Memory}
use Rattle.cells.specs.Directory.{Declaration, IsDeclaration, Declares, IsRefusedDeclaration}
use Rattle.cells.specs.Directory.{HasDistinctNames, IsDirectory}

-- a declaration has one array and one directory as its result, or one fault, apart from "out of
-- memory"
pub record DeclaresOneWay (d : Declaration) (old : List CellArray) : Type 0 where
  pub array : (n m : ℕ) (new last : List CellArray) → Declares d old n new → Declares d old m last
      → (n ≡ m) × (new ≡ last)
  pub fault : (e f : CellsFault) → IsRefusedDeclaration d old e → IsRefusedDeclaration d old f
      → e ≢ Memory → f ≢ Memory → e ≡ f
  pub either : (n : ℕ) (new : List CellArray) (e : CellsFault) → Declares d old n new
      → IsRefusedDeclaration d old e → e ≡ Memory

-- each declaration has one result if the directory has no duplicate names
abbrev pub DeclareOneWay : Type 0
DeclareOneWay = (d : Declaration) (old : List CellArray) → HasDistinctNames old
    → DeclaresOneWay d old

-- then the directory after it has no duplicate names either
abbrev pub KeepsNames : Type 0
KeepsNames = (d : Declaration) (old : List CellArray) (n : ℕ) (new : List CellArray)
    → HasDistinctNames old → Declares d old n new → HasDistinctNames new

-- a directory stays one after a declaration
abbrev pub KeepsDirectory : Type 0
KeepsDirectory = (d : Declaration) (old : List CellArray) (n : ℕ) (new : List CellArray)
    → IsDeclaration d → IsDirectory old → Declares d old n new → IsDirectory new
