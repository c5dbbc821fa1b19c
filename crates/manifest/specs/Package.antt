-- The table of a package.
use Rattle.std.specs.Prelude.{codes, Result, Ok}
use Rattle.toml.specs.Data.{Members, as_str, as_bool}
use Rattle.releases.specs.Release.{Package, is_hash}
use Rattle.manifest.specs.declared.kind.Kind.TheVariants as kind
use Rattle.manifest.specs.declared.schema_error.PackageError.{PackageError}
use Rattle.manifest.specs.declared.schema_error.PackageError.TheVariants as schema_error
use Rattle.manifest.specs.Kind.{only}
use Rattle.manifest.specs.Member.{required, number, text_that, needs}

-- the package of a table, or its first schema error
abbrev pub package_of : Members → Result Package PackageError
package_of table =
    only kind.Package table schema_error.Unknown (
    needs (required as_str (codes "name") table) schema_error.Name (λ name.
    needs (required (text_that is_hash) (codes "hash_sha256") table) schema_error.Hash (λ hash.
    needs (required (number 0 9007199254740991) (codes "size") table) schema_error.Size (λ size.
    needs (required as_bool (codes "required") table) schema_error.Required (λ required.
    Ok (record { name = name; hash_sha256 = hash; size = size; required = required }))))))
