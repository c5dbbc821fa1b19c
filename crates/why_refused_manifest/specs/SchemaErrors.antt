-- All schema errors of a manifest: the first one of each table in its two lists.
use Rattle.std.specs.Prelude.{ℕ, ◌+◌, List, [], ◌∷◌, ◌++◌, map, codes}
use Rattle.std.specs.Prelude.{Option, Some, None, option_to_list, Result, Ok, Err}
use Rattle.toml.specs.Data.{Data, Members, get_member, as_str}
use Rattle.manifest.specs.declared.kind.Kind.TheVariants as kind
use Rattle.manifest.specs.declared.schema_error.InList.{InList}
use Rattle.manifest.specs.declared.schema_error.InList.TheVariants.{Count}
use Rattle.manifest.specs.declared.schema_error.AppError.{AppError}
use Rattle.manifest.specs.declared.schema_error.ArrayError.{ArrayError}
use Rattle.manifest.specs.declared.schema_error.SchemaError.{SchemaError}
use Rattle.manifest.specs.declared.schema_error.SchemaError.TheVariants as schema_error
use Rattle.manifest.specs.App.{app_of}
use Rattle.manifest.specs.Array.{array_of}
use Rattle.manifest.specs.Kind.{unknown_member}
use Rattle.manifest.specs.Member.{required}
use Rattle.manifest.specs.Rows.{item_of, items_between}

-- the schema error, if there is one
abbrev pub schema_error_in : {X M : Type 0} → Result X M → List M
schema_error_in (Ok x) = []
schema_error_in (Err schema_error) = schema_error ∷ []

module _ {X M : Type 0} (row_of : Members → Result X M) where
  -- the schema errors of the items, which are numbered from this number
  abbrev pub schema_errors_from : ℕ → List Data → List (InList M)
  schema_errors_from n [] = []
  schema_errors_from n (d ∷ ds) = schema_error_in (item_of row_of n d)
      ++ schema_errors_from (n + 1) ds

  abbrev pub errors_or_count : Option (List Data) → List (InList M)
  errors_or_count None = Count ∷ []
  errors_or_count (Some ds) = schema_errors_from 1 ds

  -- the schema errors of a list of `from` to `to` tables
  abbrev pub schema_errors_of_rows : ℕ → ℕ → Option Data → List (InList M)
  schema_errors_of_rows from to value = errors_or_count (items_between from to value)

abbrev pub server_of : Option (List ℕ) → List SchemaError
server_of None = schema_error.Server ∷ []
server_of (Some server) = []

-- the first unknown member, and a server that isn't a text
abbrev pub own_schema_errors : Members → List SchemaError
own_schema_errors table =
    map schema_error.Unknown (option_to_list (unknown_member kind.Manifest table))
    ++ server_of (required as_str (codes "server") table)

abbrev pub array_schema_errors : Members → List (InList ArrayError)
array_schema_errors table = schema_errors_of_rows array_of 0 64 (get_member (codes "array") table)

abbrev pub app_schema_errors : Members → List (InList AppError)
app_schema_errors table = schema_errors_of_rows app_of 1 256 (get_member (codes "app") table)

-- in the order in which a manifest is read
abbrev pub schema_errors_of : Members → List SchemaError
schema_errors_of table =
    own_schema_errors table
    ++ map schema_error.Arrays (array_schema_errors table)
    ++ map schema_error.Apps (app_schema_errors table)
