-- Warnings, their names and their lines.
use Rattle.std.specs.Prelude.{ℕ, ◌/◌, ◌%◌, List, [], ◌∷◌, ◌++◌, codes, decimal, flat_map}
use Rattle.std.specs.Prelude.{Bool, true, false}
use Rattle.warnings.specs.declared.warning.WarningPlace.{WarningPlace}
use Rattle.warnings.specs.declared.warning.WarningPlace.TheVariants as place
use Rattle.warnings.specs.declared.warning.Warning.{Warning}
use Rattle.warnings.specs.declared.warning.WarningKind.{WarningKind}
use Rattle.warnings.specs.declared.warning.WarningKind.TheVariants as kind

-- one warning
abbrev pub warned : WarningPlace → WarningKind → List Warning
warned place kind = record { place = place; kind = kind } ∷ []

-- a warning, if a condition holds
abbrev pub warned_if : Bool → WarningPlace → WarningKind → List Warning
warned_if true place kind = warned place kind
warned_if false place kind = []

-- ---- names, which are stable

abbrev pub name_of : WarningKind → List ℕ
name_of kind.UnprintedAppid = codes "unprinted-appid"
name_of kind.UnusedArray = codes "unused-array"
name_of (kind.SharedArray first second) = codes "shared-array"
name_of kind.SameVersion = codes "same-version"
name_of kind.CodebaseSlash = codes "codebase-slash"
name_of kind.CodebaseScheme = codes "codebase-scheme"
name_of kind.EmptyFile = codes "empty-file"
name_of kind.PackageName = codes "package-name"
name_of (kind.FewBuckets up_to number buckets) = codes "few-buckets"
name_of (kind.AllBuckets up_to number) = codes "all-buckets"
name_of kind.TakeBeforeVersion = codes "take-before-version"
name_of kind.NoCohort = codes "no-cohort"
name_of kind.EarlyDay = codes "early-day"
name_of kind.NeverReached = codes "never-reached"
name_of kind.NeverHolds = codes "never-holds"
name_of kind.NoBucket = codes "no-bucket"
name_of kind.OfferedAgain = codes "offered-again"
name_of kind.OfferedLower = codes "offered-lower"
name_of kind.NotEvaluated = codes "not-evaluated"

-- ---- lines

abbrev pub app_path : ℕ → List ℕ
app_path app = codes "app[" ++ decimal app ++ codes "]"

abbrev pub place_text : WarningPlace → List ℕ
place_text (place.Array array) = codes "array[" ++ decimal array ++ codes "]"
place_text (place.App app) = app_path app
place_text (place.Release app release) =
    app_path app ++ codes ".release[" ++ decimal release ++ codes "]"
place_text (place.Line app line) = app_path app ++ codes ".rule: line " ++ decimal line

abbrev pub sign_of : (up_to : Bool) → List ℕ
sign_of true = codes "<="
sign_of false = codes "<"

-- in percent with two places
abbrev pub few_percent : (buckets : ℕ) → List ℕ
few_percent buckets =
    codes "0." ++ decimal (buckets / 10) ++ decimal (buckets % 10) ++ codes " percent"

-- a test, and the part of the buckets for which it holds; or the apps that share an array
abbrev pub part_text : WarningKind → List ℕ
part_text (kind.FewBuckets up_to number buckets) =
    codes ": bucket " ++ sign_of up_to ++ codes " " ++ decimal number ++ codes " is "
    ++ few_percent buckets
part_text (kind.AllBuckets up_to number) =
    codes ": bucket " ++ sign_of up_to ++ codes " " ++ decimal number ++ codes " is all"
part_text (kind.SharedArray first second) =
    codes ": app[" ++ decimal first ++ codes "] and app[" ++ decimal second ++ codes "]"
part_text k = []

-- what comes after the place, and after a test's part or the apps
unfoldable pub kind_text_of : WarningKind → List ℕ
kind_text_of kind.UnprintedAppid = codes ".appid: it has a character that isn't printed"
kind_text_of kind.UnusedArray = codes ": no program uses it, and no rule"
kind_text_of (kind.SharedArray first second) =
    codes " use it, so a mistake in one changes the counts and quotas of both"
kind_text_of kind.SameVersion = codes ".version: a later release has it, too"
kind_text_of kind.CodebaseSlash =
    codes ".codebase: no / ends it, and a client joins it with a package's name"
kind_text_of kind.CodebaseScheme = codes ".codebase: it begins with neither https:// nor http://"
kind_text_of kind.EmptyFile = codes ".package: one has the size 0"
kind_text_of kind.PackageName =
    codes ".package: one has a name that is empty, begins with .. or has a blank"
kind_text_of (kind.FewBuckets up_to number buckets) =
    codes " of the bucket numbers: one percent is 100 of them"
kind_text_of (kind.AllBuckets up_to number) =
    codes " of the bucket numbers: one percent is 100 of them"
kind_text_of kind.TakeBeforeVersion =
    codes ": this take comes before the version, so it is done whatever the version is"
kind_text_of kind.NoCohort = codes ": a reply's cohort is b: and four digits"
kind_text_of kind.EarlyDay = codes ": this day is before 2026, as days are counted from 2007-01-01"
kind_text_of kind.NeverReached = codes ": this when is never reached"
kind_text_of kind.NeverHolds = codes ": this when never holds"
kind_text_of kind.NoBucket = codes ": no bucket gets it"
kind_text_of kind.OfferedAgain = codes ".version: in some bucket its machines may get it again"
kind_text_of kind.OfferedLower = codes ".version: in some bucket its machines may get a lower one"
kind_text_of kind.NotEvaluated =
    codes ".rule: evaluating which releases it gives would take too long"

-- its place, and what it says
abbrev pub warning_text : Warning → List ℕ
warning_text w = place_text w.place ++ part_text w.kind ++ kind_text_of w.kind

abbrev pub line_start : WarningKind → List ℕ
line_start k = codes "warning " ++ name_of k ++ codes ": "

abbrev pub warning_line : Warning → List ℕ
warning_line w = line_start w.kind ++ warning_text w ++ codes "\n"

-- a line for each warning
abbrev pub warnings_text : List Warning → List ℕ
warnings_text warnings = flat_map warning_line warnings
