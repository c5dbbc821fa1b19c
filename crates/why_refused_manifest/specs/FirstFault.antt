-- The fault of refused bytes is the first of its kind.
use Rattle.std.specs.Prelude.{◌≡◌, ℕ, List, ◌∷◌, Err}
use Rattle.toml.specs.Data.{Members}
use Rattle.manifest.specs.declared.manifest_fault.ManifestFault.TheVariants.{Field, Duplicate}
use Rattle.manifest.specs.declared.manifest_fault.DuplicateName.{DuplicateName}
use Rattle.manifest.specs.declared.schema_error.SchemaError.{SchemaError}
use Rattle.why_refused_manifest.specs.AllDuplicates.{HasAllDuplicates}
use Rattle.manifest.specs.Manifest.{IsTree, ReadsManifest}
use Rattle.why_refused_manifest.specs.SchemaErrors.{schema_errors_of}

-- the schema error of refused bytes is the first of their document
abbrev pub HasSchemaErrorFirst : List ℕ → Type 0
HasSchemaErrorFirst bytes = (schema_error : SchemaError) (tree : Members)
    → ReadsManifest bytes (Err (Field schema_error)) → IsTree bytes tree
    → (others : List SchemaError) × (schema_errors_of tree ≡ schema_error ∷ others)

-- the duplicate name of refused bytes is the first of their document
abbrev pub HasDuplicateFirst : List ℕ → Type 0
HasDuplicateFirst bytes =
    (duplicate : DuplicateName) (tree : Members) (duplicates : List DuplicateName)
    → ReadsManifest bytes (Err (Duplicate duplicate)) → IsTree bytes tree
    → HasAllDuplicates tree duplicates
    → (others : List DuplicateName) × (duplicates ≡ duplicate ∷ others)
