-- A comparison as JSON (RFC 8259). The members of an object are sorted by name.
use Rattle.std.specs.Prelude.{ℕ, List, [], codes, map, Bool, if◌then◌else◌}
use Rattle.std.specs.List.{filter_map}
use Rattle.std.specs.Prelude.{Option, Some, None}
use Rattle.std.specs.Str.{bytes_eq}
use Rattle.std.specs.String.{string_bytes}
use Rattle.cells.specs.Directory.{Declaration}
use Rattle.declarations.specs.Texts.{declaration_text}
use Rattle.diff_text.specs.Objects.{row_objects}
use Rattle.serde_json.specs.Data.{Data, null, boolean, string, array, object}
use Rattle.serde_json.specs.Data.{no_members, member}
use Rattle.serde_json.specs.View.{items_of}
use Rattle.diff_manifests.specs.Arrays.{ArrayChange}
use Rattle.diff_manifests.specs.Reports.{loses}
use Rattle.diff_manifests.specs.Texts.{is_compared, is_silent}
use Rattle.diff_manifests.specs.declared.outcome.AppChange.{AppChange}
use Rattle.diff_manifests.specs.declared.outcome.AppChange.TheVariants.{Kept, New, Gone}
use Rattle.diff_manifests.specs.declared.outcome.AppOutcome.{AppOutcome}
use Rattle.diff_manifests.specs.declared.outcome.AppOutcome.TheVariants.{Rows, NotCompared}
use Rattle.diff_manifests.specs.declared.outcome.WhyNot.{WhyNot}
use Rattle.diff_manifests.specs.declared.outcome.WhyNot.TheVariants.{Program, Size}
use Rattle.diff_manifests.specs.declared.app_diff.AppDiff.{AppDiff}

abbrev pub change_name : AppChange → List ℕ
change_name Kept = codes "kept"
change_name New = codes "new"
change_name Gone = codes "gone"

abbrev pub why_name : WhyNot → List ℕ
why_name Program = codes "program"
why_name Size = codes "size"

-- why an app isn't compared, and null otherwise
abbrev pub why_object : AppOutcome → Data
why_object (NotCompared why) = string (why_name why)
why_object outcome = null

abbrev pub rows_in : AppOutcome → List Data
rows_in (Rows shown) = row_objects shown
rows_in outcome = []

abbrev pub app_object : AppDiff → Data
app_object d = object (
    member (codes "appid") (string (string_bytes d.appid)) (
    member (codes "compared") (boolean (is_compared d.outcome)) (
    member (codes "is") (string (change_name d.change)) (
    member (codes "lost") (boolean (loses d)) (
    member (codes "rows") (array (items_of (rows_in d.outcome))) (
    member (codes "why") (why_object d.outcome)
    no_members))))))

abbrev pub app_if_any : AppDiff → Option Data
app_if_any d = if is_silent d then None else Some (app_object d)

-- the objects of the apps that differ
abbrev pub app_objects : List AppDiff → List Data
app_objects diffs = filter_map app_if_any diffs

-- a declaration, as its text
abbrev pub array_text_object : Declaration → Data
array_text_object d = string (declaration_text d)

abbrev pub array_object : ArrayChange → Data
array_object c = object (
    member (codes "name") (string c.old.name) (
    member (codes "next") (array_text_object c.new) (
    member (codes "now") (array_text_object c.old)
    no_members)))

-- the servers' names, if they differ
abbrev pub server_object : (old new : List ℕ) → Data
server_object old new =
    if bytes_eq old new then null
    else object (
    member (codes "next") (string new) (
    member (codes "now") (string old)
    no_members))

abbrev pub diff_object : (old new : List ℕ) → List ArrayChange → List AppDiff
    → (lost same : Bool) → Data
diff_object old new changes diffs lost same = object (
    member (codes "apps") (array (items_of (app_objects diffs))) (
    member (codes "arrays") (array (items_of (map array_object changes))) (
    member (codes "lost") (boolean lost) (
    member (codes "same") (boolean same) (
    member (codes "server") (server_object old new)
    no_members)))))
