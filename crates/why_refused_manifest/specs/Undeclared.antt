-- The faults of arrays, each declared together with the declarable arrays before it.
use Rattle.std.specs.Prelude.{◌≢◌, ℕ, ◌+◌, ◌-◌, List, [], ◌∷◌, ◌++◌, take, drop}
use Rattle.std.specs.Prelude.{Option, Some, None}
use Rattle.load.specs.declared.load_fault.LoadFault.{LoadFault}
use Rattle.load.specs.declared.load_fault.LoadFault.TheVariants.{Cells}
use Rattle.cells.specs.Directory.{Declaration, Declares, IsRefusedDeclaration}
use Rattle.cells.specs.declared.array.ArrayNo.{ArrayNo}
use Rattle.cells.specs.declared.array.CellArray.{CellArray}
use Rattle.cells.specs.declared.cells_fault.CellsFault.{CellsFault}
use Rattle.cells.specs.declared.cells_fault.CellsFault.TheVariants as cells
use Rattle.declarations.specs.Order.{AreDeclared}

-- the fault of the array with this number, if it has one
abbrev pub fault_of_array : ℕ → Option CellsFault → List LoadFault
fault_of_array number None = []
fault_of_array number (Some fault) = Cells number fault ∷ []

-- the outcome of a declaration: an array, or a fault that leaves the directory unchanged
pub data JudgesArray (d : Declaration) (old : List CellArray)
    : (new : List CellArray) → Option CellsFault → Type 0 where
  declared : {new : List CellArray} (n : ℕ) → Declares d old n new → JudgesArray d old new None
  refused : (fault : CellsFault) → fault ≢ cells.Memory → IsRefusedDeclaration d old fault
      → JudgesArray d old old (Some fault)

-- the faults of these arrays, the first of which has this number
pub data AreFaultsOfArrays : ℕ → (old : List CellArray) → List Declaration → List LoadFault
    → Type 0 where
  none : {number : ℕ} {old : List CellArray} → AreFaultsOfArrays number old [] []
  next : {number : ℕ} {old between : List CellArray} {d : Declaration} {ds : List Declaration}
      {faults : List LoadFault} (judged : Option CellsFault) → JudgesArray d old between judged
      → AreFaultsOfArrays (number + 1) between ds faults
      → AreFaultsOfArrays number old (d ∷ ds) (fault_of_array number judged ++ faults)

-- the faults of the arrays after the one with this number, given those before it
pub record AreUndeclared (arrays : List Declaration) (number : ℕ) (faults : List LoadFault)
    : Type 0 where
  pub numbers : List ArrayNo
  pub directory : List CellArray
  pub declared : AreDeclared [] (take (number - 1) arrays) numbers directory
  pub faults_are : AreFaultsOfArrays (number + 1) directory (drop number arrays) faults
