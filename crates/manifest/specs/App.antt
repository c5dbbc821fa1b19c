-- The table of an app.
use Rattle.std.specs.Prelude.{◌≤◌, ℕ, List, length, codes, IsTrue}
use Rattle.std.specs.Prelude.{Option, Some, None, option_map, Result, Ok}
use Rattle.toml.specs.Data.{Data, Members, get_member, as_str}
use Rattle.releases.specs.Appid.{is_appid}
use Rattle.releases.specs.Release.{Release}
use Rattle.manifest.specs.declared.app.ProgramSource.{ProgramSource}
use Rattle.manifest.specs.declared.app.ProgramSource.TheVariants.{Program, Rule}
use Rattle.manifest.specs.declared.kind.Kind.TheVariants as kind
use Rattle.manifest.specs.declared.schema_error.InList.{InList}
use Rattle.manifest.specs.declared.schema_error.AppError.{AppError}
use Rattle.manifest.specs.declared.schema_error.AppError.TheVariants as schema_error
use Rattle.manifest.specs.declared.schema_error.ReleaseError.{ReleaseError}
use Rattle.manifest.specs.Kind.{only}
use Rattle.manifest.specs.Member.{required, text_that, needs, fits}
use Rattle.manifest.specs.Rows.{rows_of}
use Rattle.manifest.specs.Release.{release_of}

-- the name of the file
abbrev pub file_of : ProgramSource → List ℕ
file_of (Program file) = file
file_of (Rule file) = file

-- an app: its appid, the file of its program, and its releases
pub record AppEntry : Type 0 where
  pub appid : List ℕ
  pub source : ProgramSource
  pub releases : List Release

-- the invariant of an app: its appid is valid, and it has at most 64 releases
pub record IsAppEntry (appid : List ℕ) (releases : List Release) : Type 0 where
  pub named : IsTrue (is_appid appid)
  pub few : length releases ≤ 64

-- the file of a program, or of a rule, but not both
abbrev pub source_of : Option Data → Option Data → Option ProgramSource
source_of (Some program) None = option_map (λ file. Program file) (as_str program)
source_of None (Some rule) = option_map (λ file. Rule file) (as_str rule)
source_of None None = None
source_of (Some program) (Some rule) = None

abbrev pub source_in : Members → Result ProgramSource AppError
source_in table =
    needs (source_of (get_member (codes "program") table) (get_member (codes "rule") table))
    schema_error.ProgramSource (λ source. Ok source)

-- at most 64 releases
abbrev pub releases_of : Members → Result (List Release) (InList ReleaseError)
releases_of table = rows_of release_of 0 64 (get_member (codes "release") table)

-- the app of a table, or its first schema error
abbrev pub app_of : Members → Result AppEntry AppError
app_of table =
    only kind.App table schema_error.Unknown (
    needs (required (text_that is_appid) (codes "appid") table) schema_error.Appid (λ appid.
    fits (source_in table) (λ schema_error. schema_error) (λ source.
    fits (releases_of table) schema_error.Releases (λ releases.
    Ok (record { appid = appid; source = source; releases = releases })))))
