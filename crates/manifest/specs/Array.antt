-- The table of an array of counters.
use Rattle.std.specs.Prelude.{ℕ, codes, ◌==◌, if◌then◌else◌}
use Rattle.std.specs.Prelude.{Option, Some, None, option_and_then, option_map, Result, Ok}
use Rattle.toml.specs.Data.{Data, Members, get_member}
use Rattle.cells.specs.declared.array.CellWidth.{CellWidth}
use Rattle.cells.specs.declared.array.CellWidth.TheVariants.{Bits32, Bits64}
use Rattle.cells.specs.Directory.{Declaration, declaration}
use Rattle.declarations.specs.Spec.{is_name}
use Rattle.manifest.specs.declared.kind.Kind.TheVariants as kind
use Rattle.manifest.specs.declared.schema_error.ArrayError.{ArrayError}
use Rattle.manifest.specs.declared.schema_error.ArrayError.TheVariants as schema_error
use Rattle.manifest.specs.Kind.{only}
use Rattle.manifest.specs.Member.{required, number, text_that, needs}

abbrev pub width_from : ℕ → Option CellWidth
width_from n = if n == 32 then Some Bits32 else if n == 64 then Some Bits64 else None

-- 32 or 64
abbrev pub width_of : Data → Option CellWidth
width_of value = option_and_then width_from (number 32 64 value)

-- a quota may be absent, and needs 64-bit cells
abbrev pub quota_of : CellWidth → Option Data → Option (Option ℕ)
quota_of w None = Some None
quota_of Bits64 (Some value) = option_map (λ q. Some q) (number 1 9223372036854775807 value)
quota_of Bits32 (Some value) = None

-- the array of a table, or its first schema error
abbrev pub array_of : Members → Result Declaration ArrayError
array_of table =
    only kind.Array table schema_error.Unknown (
    needs (required (text_that is_name) (codes "name") table) schema_error.Name (λ name.
    needs (required width_of (codes "width") table) schema_error.Width (λ width.
    needs (required (number 1 4096) (codes "length") table) schema_error.Length (λ length.
    needs (quota_of width (get_member (codes "quota") table)) schema_error.Quota (λ quota.
    Ok (declaration name width length quota))))))
