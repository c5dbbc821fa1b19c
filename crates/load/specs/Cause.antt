-- What a log prints about a load: what its ruleset was made of, or the cause of its fault.
use Rattle.std.specs.Prelude.{◌≡◌, ℕ, ◌-◌, List, ◌++◌, codes, slice_get, IfSome}
use Rattle.std.specs.Prelude.{Option, Some, None, option_map, option_and_then, Result, Ok, Err}
use Rattle.std.specs.String.{string_bytes}
use Rattle.std.specs.declared.alloc.Global.{Global}
use Rattle.std.specs.declared.string.String.{String}
use Rattle.bounded_files.specs.Files.{KnownFiles, Gives, regular_files}
use Rattle.cells.specs.declared.array.CellArray.{CellArray}
use Rattle.cells.specs.declared.cells_fault.CellsFault.{CellsFault}
use Rattle.cells.specs.declared.cells_fault.CellsFault.TheVariants as cells
use Rattle.cells.specs.Directory.{Declaration, declaration, array_named}
use Rattle.declarations.specs.Texts.{declaration_text}
use Rattle.manifest.specs.Manifest.{Manifest, ReadsManifest}
use Rattle.manifest.specs.Texts.{schema_error_text, duplicate_text}
use Rattle.manifest.specs.declared.manifest_fault.ManifestFault.{ManifestFault}
use Rattle.manifest.specs.declared.manifest_fault.ManifestFault.TheVariants as unread
use Rattle.load.specs.Folder.{files_in_folder}
use Rattle.load.specs.Load.{IsLoadFault}
use Rattle.load.specs.Loaded.{RefusesPath}
use Rattle.load.specs.Made.{IsMadeFrom}
use Rattle.load.specs.declared.load_fault.LoadFault.{LoadFault}
use Rattle.load.specs.declared.load_fault.LoadFault.TheVariants as load
use Rattle.load.specs.declared.load_fault.PathFault.{PathFault}
use Rattle.load.specs.declared.load_fault.PathFault.TheVariants.{Resource, Load}
use Rattle.ruleset.specs.declared.loaded.LoadedRuleset.{LoadedRuleset}
use Rattle.load.specs.declared.refusal.LoadRefusal.{LoadRefusal}

-- the wrong member, and what is expected there; or the duplicate name
abbrev pub manifest_cause : ManifestFault → Option (List ℕ)
manifest_cause (unread.Field schema_error) = Some (schema_error_text schema_error)
manifest_cause (unread.Duplicate duplicate) = Some (duplicate_text duplicate)
manifest_cause fault = None

-- an array as it would be declared
abbrev pub as_declared : CellArray → Declaration
as_declared a = declaration a.name a.width a.length a.quota

-- an array as it exists, and as the manifest has it
abbrev pub change_text : CellArray → Declaration → List ℕ
change_text a d = declaration_text (as_declared a) ++ codes " to " ++ declaration_text d

abbrev pub full_text : Declaration → List ℕ
full_text d = declaration_text d ++ codes " passes the 4096 cells that all arrays of a width have"

-- how a declaration conflicts with the existing arrays
abbrev pub array_cause : List CellArray → Declaration → CellsFault → Option (List ℕ)
array_cause old d cells.Redefined = option_map (λ a. change_text a d) (array_named d.name old)
array_cause old d cells.CellsFull = Some (full_text d)
array_cause old d cells.Memory = None

-- for the array with this number, from 1
abbrev pub cause_in : List CellArray → List Declaration → ℕ → CellsFault → Option (List ℕ)
cause_in old arrays number fault =
    option_and_then (λ d. array_cause old d fault) (slice_get arrays (number - 1))

-- for a fault of a manifest with these arrays
abbrev pub cause_of : List CellArray → List Declaration → LoadFault → Option (List ℕ)
cause_of old arrays (load.Manifest fault) = manifest_cause fault
cause_of old arrays (load.Cells number fault) = cause_in old arrays number fault
cause_of old arrays fault = None

-- the text is the cause of a fault of these bytes
abbrev pub IsCause : List CellArray → List ℕ → LoadFault → List ℕ → Type 0
IsCause old bytes (load.Manifest fault) text = manifest_cause fault ≡ Some text
IsCause old bytes (load.Cells number fault) text =
    (manifest : Manifest) × ReadsManifest bytes (Ok manifest)
    × (cause_in old manifest.arrays number fault ≡ Some text)
IsCause old bytes fault text = ⊥

-- this is the fault of these bytes, and its cause, if it has one
pub record IsFaultWithCause (known : KnownFiles) (old : List CellArray) (bytes : List ℕ)
    (fault : LoadFault) (cause : Option (String Global)) : Type 0 where
  pub fault_is : IsLoadFault known old bytes fault
  pub cause_is : IfSome cause (λ text. IsCause old bytes fault (string_bytes text))

module _ (known : KnownFiles) (path : List ℕ) (old : List CellArray) where
  -- the file can't be read, and no cause is given; or it gives bytes with this fault and this
  -- cause, if there is one
  abbrev pub RefusesWithCause : PathFault → Option (String Global) → Type 0
  RefusesWithCause (Load fault) cause =
      (bytes : List ℕ) × Gives (regular_files known) path (Some bytes)
      × IsFaultWithCause (files_in_folder known path) old bytes fault cause
  RefusesWithCause (Resource fault) cause =
      RefusesPath known path old (Resource fault) × (cause ≡ None)

  -- the ruleset with its digest; or the fault and its cause, if there is one
  abbrev pub LoadsWithCause : Result LoadedRuleset LoadRefusal → Type 0
  LoadsWithCause (Ok made) = IsMadeFrom known path old made
  LoadsWithCause (Err refused) = RefusesWithCause refused.fault refused.cause
