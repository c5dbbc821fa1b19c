-- A manifest: the table of a document, and the faults of refused ones.
use Rattle.std.specs.Prelude.{◌≡◌, ℕ, ◌<◌, ◌≤◌, List, length, map, codes}
use Rattle.std.specs.Prelude.{Option, Some, None, Result, Ok, Err, IsUtf8}
use Rattle.toml.specs.Data.{Members, get_member, as_str}
use Rattle.toml.specs.Parse.{parse_document}
use Rattle.cells.specs.Directory.{Declaration}
use Rattle.manifest.specs.declared.manifest_fault.ManifestFault.{ManifestFault}
use Rattle.manifest.specs.declared.manifest_fault.ManifestFault.TheVariants.{Toml, Field, Duplicate}
use Rattle.manifest.specs.declared.manifest_fault.TomlFault.{TomlFault}
use Rattle.manifest.specs.declared.manifest_fault.TomlFault.TheVariants.{TooLong, Text}
use Rattle.manifest.specs.declared.manifest_fault.DuplicateName.{DuplicateName}
use Rattle.manifest.specs.declared.manifest_fault.DuplicateName.TheVariants as duplicate
use Rattle.manifest.specs.declared.kind.Kind.TheVariants as kind
use Rattle.manifest.specs.declared.schema_error.InList.{InList}
use Rattle.manifest.specs.declared.schema_error.AppError.{AppError}
use Rattle.manifest.specs.declared.schema_error.ArrayError.{ArrayError}
use Rattle.manifest.specs.declared.schema_error.SchemaError.{SchemaError}
use Rattle.manifest.specs.declared.schema_error.SchemaError.TheVariants as schema_error
use Rattle.manifest.specs.Kind.{only}
use Rattle.manifest.specs.Member.{required, needs, fits}
use Rattle.manifest.specs.Rows.{rows_of}
use Rattle.manifest.specs.Array.{array_of}
use Rattle.manifest.specs.App.{AppEntry, app_of}
use Rattle.manifest.specs.DuplicateNames.{repeated}

pub record Manifest : Type 0 where
  pub server : List ℕ
  pub arrays : List Declaration
  pub apps : List AppEntry

-- at most 64 arrays
abbrev pub arrays_of : Members → Result (List Declaration) (InList ArrayError)
arrays_of table = rows_of array_of 0 64 (get_member (codes "array") table)

-- 1 to 256 apps
abbrev pub apps_of : Members → Result (List AppEntry) (InList AppError)
apps_of table = rows_of app_of 1 256 (get_member (codes "app") table)

-- the manifest of a document's table, or its first schema error
abbrev pub tables_of : Members → Result Manifest SchemaError
tables_of table =
    only kind.Manifest table schema_error.Unknown (
    needs (required as_str (codes "server") table) schema_error.Server (λ server.
    fits (arrays_of table) schema_error.Arrays (λ arrays.
    fits (apps_of table) schema_error.Apps (λ apps.
    Ok (record { server = server; arrays = arrays; apps = apps })))))

-- continues if there is nothing wrong
abbrev pub none_of : {X Y E : Type 0} → Option X → (X → E) → Result Y E → Result Y E
none_of None fault next = next
none_of (Some x) fault next = Err (fault x)

-- the manifest, if the names of its arrays are distinct, and so are its appids
abbrev pub once : Manifest → Result Manifest DuplicateName
once manifest =
    none_of (repeated (map (λ (a : Declaration). a.name) manifest.arrays)) duplicate.Array (
    none_of (repeated (map (λ (a : AppEntry). a.appid) manifest.apps)) duplicate.App (
    Ok manifest))

-- ---- the bytes

-- the tree of the bytes: they are at most 1048576, are UTF-8, and spell a TOML document
pub record IsTree (bytes : List ℕ) (tree : Members) : Type 0 where
  pub short : length bytes ≤ 1048576
  pub utf8 : IsUtf8 bytes
  pub document : parse_document bytes ≡ Some tree

-- why the bytes have no tree
abbrev pub HasNoTree : List ℕ → TomlFault → Type 0
HasNoTree bytes TooLong = 1048576 < length bytes
HasNoTree bytes Text =
    (length bytes ≤ 1048576) × (IsUtf8 bytes → parse_document bytes ≡ None)

-- the result of reading the tables of the bytes' tree
pub record HasTables (bytes : List ℕ) (tables : Result Manifest SchemaError) : Type 0 where
  pub tree : Members
  pub spelled : IsTree bytes tree
  pub tables_are : tables_of tree ≡ tables

-- the result of reading a manifest's bytes
abbrev pub ReadsManifest : List ℕ → Result Manifest ManifestFault → Type 0
ReadsManifest bytes (Ok manifest) = HasTables bytes (Ok manifest) × (once manifest ≡ Ok manifest)
ReadsManifest bytes (Err (Toml fault)) = HasNoTree bytes fault
ReadsManifest bytes (Err (Field schema_error)) = HasTables bytes (Err schema_error)
ReadsManifest bytes (Err (Duplicate duplicate)) =
    (manifest : Manifest) × HasTables bytes (Ok manifest) × (once manifest ≡ Err duplicate)
