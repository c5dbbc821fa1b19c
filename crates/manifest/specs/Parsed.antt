-- Why no manifest was read; and the result of the crate `toml` for bytes that aren't one.
use Rattle.std.specs.Prelude.{ℕ, List, Err}
use Rattle.toml.specs.View.{table_view}
use Rattle.manifest.specs.declared.manifest_fault.ManifestFault.{ManifestFault}
use Rattle.manifest.specs.declared.manifest_fault.ManifestFault.TheVariants.{Toml, Field, Duplicate}
use Rattle.manifest.specs.declared.manifest_fault.TomlFault.TheVariants.{TooLong, Text}
use Rattle.manifest.specs.declared.refused.Parsed.{Parsed}
use Rattle.manifest.specs.declared.refused.Parsed.TheVariants.{Document, Error, Nothing}
use Rattle.manifest.specs.declared.refused.RefusedManifest.{RefusedManifest}
use Rattle.manifest.specs.declared.refused.RefusedManifest.TheVariants.{Fault, Memory}
use Rattle.manifest.specs.Manifest.{IsTree, ReadsManifest}

-- for M2 and M3 the document of the bytes; for M1 an error, which is unspecified, or nothing
abbrev pub IsParsed : List ℕ → ManifestFault → Parsed → Type 0
IsParsed bytes (Field schema_error) (Document table) = IsTree bytes (table_view table)
IsParsed bytes (Duplicate duplicate) (Document table) = IsTree bytes (table_view table)
IsParsed bytes (Toml Text) (Error error) = Unit {0}
IsParsed bytes (Toml TooLong) Nothing = Unit {0}
IsParsed bytes fault parsed = ⊥

-- why the bytes aren't a manifest, and what they were parsed as; out of memory is always allowed
abbrev pub IsNoManifest : List ℕ → RefusedManifest → Type 0
IsNoManifest bytes (Fault fault parsed) =
    ReadsManifest bytes (Err fault) × IsParsed bytes fault parsed
IsNoManifest bytes Memory = Unit {0}
