-- The further faults of a manifest itself, from the document that its bytes were parsed as: schema
-- errors and duplicate names.
use Rattle.std.specs.Prelude.{◌≡◌, List, map, drop}
use Rattle.load.specs.declared.load_fault.LoadFault.{LoadFault}
use Rattle.load.specs.declared.load_fault.LoadFault.TheVariants.{Manifest}
use Rattle.why_refused_manifest.specs.AllDuplicates.{HasAllDuplicates}
use Rattle.why_refused_manifest.specs.SchemaErrors.{schema_errors_of}
use Rattle.manifest.specs.declared.manifest_fault.ManifestFault.TheVariants.{Field, Duplicate}
use Rattle.manifest.specs.declared.manifest_fault.DuplicateName.{DuplicateName}
use Rattle.manifest.specs.declared.schema_error.SchemaError.{SchemaError}
use Rattle.manifest.specs.declared.refused.Parsed.{Parsed}
use Rattle.manifest.specs.declared.refused.Parsed.TheVariants.{Document}
use Rattle.toml.specs.View.{table_view}

abbrev pub fault_of_schema_error : SchemaError → LoadFault
fault_of_schema_error schema_error = Manifest (Field schema_error)

abbrev pub fault_of_duplicate : DuplicateName → LoadFault
fault_of_duplicate duplicate = Manifest (Duplicate duplicate)

-- all schema errors but the first
abbrev pub AreOtherSchemaErrors : Parsed → List LoadFault → Type 0
AreOtherSchemaErrors (Document table) faults =
    faults ≡ map fault_of_schema_error (drop 1 (schema_errors_of (table_view table)))
AreOtherSchemaErrors parsed faults = ⊥

-- all duplicate names but the first
abbrev pub AreOtherDuplicates : Parsed → List LoadFault → Type 0
AreOtherDuplicates (Document table) faults =
    (duplicates : List DuplicateName) × HasAllDuplicates (table_view table) duplicates
    × (faults ≡ map fault_of_duplicate (drop 1 duplicates))
AreOtherDuplicates parsed faults = ⊥
