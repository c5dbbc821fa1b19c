-- The table of a release.
use Rattle.std.specs.Prelude.{ℕ, List, codes, Bool, is_some, Result, Ok}
use Rattle.toml.specs.Data.{Members, get_member, as_str}
use Rattle.attrs.specs.Version.{version_of}
use Rattle.releases.specs.Release.{Package, Release}
use Rattle.manifest.specs.declared.kind.Kind.TheVariants as kind
use Rattle.manifest.specs.declared.schema_error.InList.{InList}
use Rattle.manifest.specs.declared.schema_error.PackageError.{PackageError}
use Rattle.manifest.specs.declared.schema_error.ReleaseError.{ReleaseError}
use Rattle.manifest.specs.declared.schema_error.ReleaseError.TheVariants as schema_error
use Rattle.manifest.specs.Kind.{only}
use Rattle.manifest.specs.Member.{required, text_that, needs, fits}
use Rattle.manifest.specs.Rows.{rows_of}
use Rattle.manifest.specs.Package.{package_of}

-- one to four numbers joined by dots
abbrev pub is_version_text : List ℕ → Bool
is_version_text text = is_some (version_of text)

-- 1 to 16 packages
abbrev pub packages_of : Members → Result (List Package) (InList PackageError)
packages_of table = rows_of package_of 1 16 (get_member (codes "package") table)

-- the release of a table, or its first schema error
abbrev pub release_of : Members → Result Release ReleaseError
release_of table =
    only kind.Release table schema_error.Unknown (
    needs (required (text_that is_version_text) (codes "version") table) schema_error.Version
    (λ version.
    needs (required as_str (codes "codebase") table) schema_error.Codebase (λ codebase.
    fits (packages_of table) schema_error.Packages (λ packages.
    Ok (record { version = version; codebase = codebase; packages = packages })))))
