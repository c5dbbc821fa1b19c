-- The texts of schema errors: the path of the member, and what is expected there. Tables of a list
-- are numbered from 1. A key or a name of the manifest is escaped for printing.
use Rattle.std.specs.Prelude.{ℕ, List, ◌++◌, codes, decimal}
use Rattle.manifest.specs.declared.manifest_fault.ManifestFault.{ManifestFault}
use Rattle.manifest.specs.declared.manifest_fault.ManifestFault.TheVariants as unread
use Rattle.manifest.specs.declared.manifest_fault.DuplicateName.{DuplicateName}
use Rattle.manifest.specs.declared.manifest_fault.DuplicateName.TheVariants as duplicate
use Rattle.manifest.specs.declared.schema_error.InList.{InList}
use Rattle.manifest.specs.declared.schema_error.InList.TheVariants.{Count, NoTable, At}
use Rattle.manifest.specs.declared.schema_error.AppError.{AppError}
use Rattle.manifest.specs.declared.schema_error.AppError.TheVariants as app
use Rattle.manifest.specs.declared.schema_error.ArrayError.{ArrayError}
use Rattle.manifest.specs.declared.schema_error.ArrayError.TheVariants as array
use Rattle.manifest.specs.declared.schema_error.SchemaError.{SchemaError}
use Rattle.manifest.specs.declared.schema_error.SchemaError.TheVariants as schema_error
use Rattle.manifest.specs.declared.schema_error.PackageError.{PackageError}
use Rattle.manifest.specs.declared.schema_error.PackageError.TheVariants as the_package
use Rattle.manifest.specs.declared.schema_error.ReleaseError.{ReleaseError}
use Rattle.manifest.specs.declared.schema_error.ReleaseError.TheVariants as release
use Rattle.printing.specs.Printed.{printed}

-- the path in the list with this key
abbrev pub list_text : {M : Type 0} → (M → List ℕ) → (key wanted : List ℕ) → InList M → List ℕ
list_text text_of key wanted Count = key ++ codes ": " ++ wanted
list_text text_of key wanted (NoTable number) =
    key ++ codes "[" ++ decimal number ++ codes "]: a table"
list_text text_of key wanted (At number schema_error) =
    key ++ codes "[" ++ decimal number ++ codes "]." ++ text_of schema_error

abbrev pub package_text : PackageError → List ℕ
package_text (the_package.Unknown key) = printed key ++ codes ": no member of a package"
package_text the_package.Name = codes "name: a text"
package_text the_package.Hash = codes "hash_sha256: 64 lower case hexadecimal digits"
package_text the_package.Size = codes "size: a whole number from 0 to 9007199254740991"
package_text the_package.Required = codes "required: true or false"

abbrev pub release_text : ReleaseError → List ℕ
release_text (release.Unknown key) = printed key ++ codes ": no member of a release"
release_text release.Version =
    codes "version: one to four numbers below 4294967296, joined by dots"
release_text release.Codebase = codes "codebase: a text"
release_text (release.Packages list) =
    list_text package_text (codes "package") (codes "1 to 16 tables") list

abbrev pub app_text : AppError → List ℕ
app_text (app.Unknown key) = printed key ++ codes ": no member of an app"
app_text app.Appid = codes "appid: a text of 1 to 1024 bytes"
app_text app.ProgramSource = codes "program or rule: one of the two, the name of a file"
app_text (app.Releases list) =
    list_text release_text (codes "release") (codes "at most 64 tables") list

abbrev pub array_text : ArrayError → List ℕ
array_text (array.Unknown key) = printed key ++ codes ": no member of an array"
array_text array.Name =
    codes "name: a letter or _, then letters, digits and _, at most 32 in all"
array_text array.Width = codes "width: 32 or 64"
array_text array.Length = codes "length: a whole number from 1 to 4096"
array_text array.Quota =
    codes "quota: a whole number from 1 to 9223372036854775807, with width 64 alone"

-- the path of the wrong member, and what is expected there
abbrev pub schema_error_text : SchemaError → List ℕ
schema_error_text (schema_error.Unknown key) = printed key ++ codes ": no member of a manifest"
schema_error_text schema_error.Server = codes "server: a text"
schema_error_text (schema_error.Arrays list) =
    list_text array_text (codes "array") (codes "at most 64 tables") list
schema_error_text (schema_error.Apps list) =
    list_text app_text (codes "app") (codes "1 to 256 tables") list

-- ---- duplicates

-- a duplicate name
abbrev pub duplicate_text : DuplicateName → List ℕ
duplicate_text (duplicate.Array name) = codes "array " ++ printed name
duplicate_text (duplicate.App appid) = codes "app " ++ printed appid

-- ---- a refusal, only by number and name

abbrev pub manifest_fault_text : ManifestFault → List ℕ
manifest_fault_text (unread.Toml fault) = codes "M1 Toml"
manifest_fault_text (unread.Field schema_error) = codes "M2 Field"
manifest_fault_text (unread.Duplicate duplicate) = codes "M3 Duplicate"
