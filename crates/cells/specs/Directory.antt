-- Directories of arrays, and what a declaration does to one.
use Rattle.std.specs.Prelude.{◌≡◌, ◌≢◌, ℕ, ◌+◌, ◌<◌, ◌≤◌, Bool, true, false, if◌then◌else◌}
use Rattle.std.specs.Prelude.{List, [], ◌∷◌, ◌++◌, length, take, slice_get, sum_by, All, Contains}
use Rattle.std.specs.Prelude.{Option, Some, None}
use Rattle.std.specs.Str.{bytes_eq}
use Rattle.cells.specs.declared.array.CellWidth.{CellWidth}
use Rattle.cells.specs.declared.array.CellWidth.TheVariants.{Bits32, Bits64}
use Rattle.cells.specs.declared.array.CellArray.{CellArray}
use Rattle.cells.specs.declared.cells_fault.CellsFault.{CellsFault}
use Rattle.cells.specs.declared.cells_fault.CellsFault.TheVariants.{CellsFull, Redefined, Memory}
use Rattle.cells.specs.Names.{IsName}
use Rattle.cells.specs.Arrays.{first_cell, HasRanges}

abbrev pub same_width : CellWidth → CellWidth → Bool
same_width Bits32 Bits32 = true
same_width Bits64 Bits64 = true
same_width v w = false

-- how many cells of this width an array has
abbrev pub cells_of : CellWidth → CellArray → ℕ
cells_of w a = if same_width w a.width then a.length else 0

-- how many all these arrays have
abbrev pub taken : CellWidth → List CellArray → ℕ
taken w arrays = sum_by (cells_of w) arrays

-- the first cell of a width that is after these arrays
abbrev pub next_cell : CellWidth → List CellArray → ℕ
next_cell w arrays = first_cell w + taken w arrays

abbrev pub HasDistinctNames : List CellArray → Type 0
HasDistinctNames arrays = (i j : ℕ) (a b : CellArray)
    → slice_get arrays i ≡ Some a → slice_get arrays j ≡ Some b → a.name ≡ b.name → i ≡ j

-- arrays with distinct names, each after the earlier ones of its width, without gaps
pub record IsDirectory (arrays : List CellArray) : Type 0 where
  pub names : HasDistinctNames arrays
  pub places : (i : ℕ) (a : CellArray)
      → slice_get arrays i ≡ Some a → a.base ≡ next_cell a.width (take i arrays)
  pub cells_fit : (w : CellWidth) → taken w arrays ≤ 4096
  pub ranges : All (λ a. HasRanges a.width a.length a.quota) arrays

-- the array of a name; the first if there are two
abbrev pub array_named : List ℕ → List CellArray → Option CellArray
array_named name [] = None
array_named name (a ∷ rest) = if bytes_eq a.name name then Some a else array_named name rest

-- this array is the one that its name finds among these
abbrev pub HasArray : List CellArray → CellArray → Type 0
HasArray arrays a = array_named a.name arrays ≡ Some a

-- the invariant of a `Directory`: its two counts are those of its arrays' cells, by width
pub record IsDirectoryState (arrays : List CellArray) (taken_64 taken_32 : ℕ) : Type 0 where
  pub directory : IsDirectory arrays
  pub wide : taken_64 ≡ taken Bits64 arrays
  pub narrow : taken_32 ≡ taken Bits32 arrays

-- ---- declarations

pub record Declaration : Type 0 where
  pub name : List ℕ
  pub width : CellWidth
  pub length : ℕ
  pub quota : Option ℕ

abbrev pub declaration : List ℕ → CellWidth → ℕ → Option ℕ → Declaration
declaration name width length quota =
    record { name = name; width = width; length = length; quota = quota }

pub record IsDeclaration (d : Declaration) : Type 0 where
  pub name : IsName d.name
  pub ranges : HasRanges d.width d.length d.quota

-- the array is as it is declared
pub record IsAsDeclared (d : Declaration) (a : CellArray) : Type 0 where
  pub name : a.name ≡ d.name
  pub width : a.width ≡ d.width
  pub length : a.length ≡ d.length
  pub quota : a.quota ≡ d.quota

-- the array of this number has the name
abbrev pub IsNamed : List CellArray → List ℕ → ℕ → Type 0
IsNamed arrays name n = (a : CellArray) × (slice_get arrays n ≡ Some a) × (a.name ≡ name)

abbrev pub HasValues : CellArray → CellWidth → ℕ → Option ℕ → Type 0
HasValues a width length quota = (a.width ≡ width) × (a.length ≡ length) × (a.quota ≡ quota)

-- no array has the name
abbrev pub IsNew : Declaration → List CellArray → Type 0
IsNew d arrays = All (λ a. a.name ≢ d.name) arrays

-- the declared array, after these ones
abbrev pub next_array : Declaration → List CellArray → CellArray
next_array d arrays =
    let base = next_cell d.width arrays in
    record { name = d.name; width = d.width; base = base; length = d.length; quota = d.quota }

-- a declaration returns the array of this number, in the directory after it
pub data Declares (d : Declaration) (old : List CellArray) : ℕ → List CellArray → Type 0 where
  -- it exists already
  again : {n : ℕ} {a : CellArray}
      → slice_get old n ≡ Some a → IsAsDeclared d a → Declares d old n old
  -- there are enough cells, and it is added at the end
  anew : IsNew d old → taken d.width old + d.length ≤ 4096
      → Declares d old (length old) (old ++ next_array d old ∷ [])

-- when each fault is returned; nothing is said of "out of memory"
abbrev pub IsRefusedDeclaration : Declaration → List CellArray → CellsFault → Type 0
IsRefusedDeclaration d old Redefined =
    (a : CellArray) × Contains old a × (a.name ≡ d.name) × ¬ IsAsDeclared d a
IsRefusedDeclaration d old CellsFull = IsNew d old × (4096 < taken d.width old + d.length)
IsRefusedDeclaration d old Memory = Unit {0}
