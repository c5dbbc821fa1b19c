-- Warnings on accepted appids and releases.
use Rattle.std.specs.Prelude.{ℕ, ◌+◌, List, [], ◌∷◌, ◌++◌, codes, nat_eq}
use Rattle.std.specs.Prelude.{Bool, not, ◌==◌, ◌&&◌, ◌||◌, Option, Some, None, false}
use Rattle.std.specs.Prelude.{slice_index, length}
use Rattle.std.specs.List.{ends_with, list_any, starts_with}
use Rattle.attrs.specs.Version.{version_of}
use Rattle.printing.specs.Printed.{has_control}
use Rattle.releases.specs.Release.{Package, Release}
use Rattle.warnings.specs.declared.warning.WarningPlace.TheVariants as place
use Rattle.warnings.specs.declared.warning.Warning.{Warning}
use Rattle.warnings.specs.declared.warning.WarningKind.TheVariants as kind
use Rattle.warnings.specs.Warnings.{warned_if}

-- ---- an appid

-- the reply to a client has the appid unescaped, with its controls
abbrev pub appid_warning : (app : ℕ) → (appid : List ℕ) → List Warning
appid_warning app appid = warned_if (has_control appid) (place.App app) kind.UnprintedAppid

-- ---- a release

-- number by number
abbrev pub same_numbers : List ℕ → List ℕ → Bool
same_numbers v w =
    (slice_index v 0 == slice_index w 0) && (slice_index v 1 == slice_index w 1)
    && (slice_index v 2 == slice_index w 2) && (slice_index v 3 == slice_index w 3)

abbrev pub same_version : Option (List ℕ) → Option (List ℕ) → Bool
same_version (Some v) (Some w) = same_numbers v w
same_version (Some v) None = false
same_version None w = false

-- by all four numbers, so 2.0 is 2.0.0.0
abbrev pub has_version : List ℕ → Release → Bool
has_version version release = same_version (version_of version) (version_of release.version)

-- a later release has the same version
abbrev pub version_warning : (app number : ℕ) → Release → (later : List Release) → List Warning
version_warning app number release later =
    warned_if (list_any (has_version release.version) later) (place.Release app number)
    kind.SameVersion

-- a client appends a package's name to the codebase
abbrev pub ends_in_slash : List ℕ → Bool
ends_in_slash url = ends_with nat_eq url (codes "/")

abbrev pub slash_warning : (app number : ℕ) → Release → List Warning
slash_warning app number release =
    warned_if (not (ends_in_slash release.codebase)) (place.Release app number)
    kind.CodebaseSlash

abbrev pub has_scheme : List ℕ → Bool
has_scheme url =
    starts_with nat_eq url (codes "https://") || starts_with nat_eq url (codes "http://")

abbrev pub scheme_warning : (app number : ℕ) → Release → List Warning
scheme_warning app number release =
    warned_if (not (has_scheme release.codebase)) (place.Release app number)
    kind.CodebaseScheme

-- a package of no bytes
abbrev pub is_empty_file : Package → Bool
is_empty_file p = p.size == 0

abbrev pub file_warning : (app number : ℕ) → Release → List Warning
file_warning app number release =
    warned_if (list_any is_empty_file release.packages) (place.Release app number) kind.EmptyFile

-- a name that can't follow the codebase in an address
abbrev pub is_odd_name : List ℕ → Bool
is_odd_name name =
    (length name == 0) || starts_with nat_eq name (codes "..") || list_any (λ c. nat_eq c 32) name

abbrev pub has_odd_name : Package → Bool
has_odd_name p = is_odd_name p.name

abbrev pub name_warning : (app number : ℕ) → Release → List Warning
name_warning app number release =
    warned_if (list_any has_odd_name release.packages) (place.Release app number)
    kind.PackageName

abbrev pub release_warnings : (app number : ℕ) → Release → (later : List Release)
    → List Warning
release_warnings app number release later =
    version_warning app number release later ++ slash_warning app number release
    ++ scheme_warning app number release ++ file_warning app number release
    ++ name_warning app number release

-- ---- the releases of an app, in their order

abbrev pub releases_from : (app number : ℕ) → List Release → List Warning
releases_from app number [] = []
releases_from app number (release ∷ later) =
    release_warnings app number release later ++ releases_from app (number + 1) later
