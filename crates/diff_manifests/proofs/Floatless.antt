-- The object of a comparison has no float.
use Rattle.std.proofs.Common.{◌≡◌, refl, ℕ, List, [], ◌∷◌, Bool, true, false, map}
use Rattle.std.specs.Prelude.{Some, None, if◌then◌else◌}
use Rattle.std.specs.List.{cons_option}
use Rattle.std.proofs.lemmas.Bool.{or_from}
use Rattle.std.specs.Str.{bytes_eq}
use Rattle.serde_json.specs.Data.{Data, null}
use Rattle.serde_json.specs.View.{items_of}
use Rattle.serde_json.specs.Written.{has_float, items_have_float}
use Rattle.diff_text.proofs.Floatless.{rows}
use Rattle.diff_manifests.specs.Arrays.{ArrayChange}
use Rattle.diff_manifests.specs.Objects.{app_object, app_objects, array_object, diff_object}
use Rattle.diff_manifests.specs.Objects.{rows_in, server_object, why_object}
use Rattle.diff_manifests.specs.Texts.{is_silent}
use Rattle.diff_manifests.specs.declared.outcome.AppOutcome.{AppOutcome}
use Rattle.diff_manifests.specs.declared.outcome.AppOutcome.TheVariants.{Same, Rows, NotCompared}
use Rattle.diff_manifests.specs.declared.app_diff.AppDiff.{AppDiff}

abbrev AreFloatless : List Data → Type 0
AreFloatless values = items_have_float (items_of values) ≡ false

none_or : (b : Bool) (value : Data) → has_float value ≡ false
    → has_float (if b then null else value) ≡ false
none_or true value is = refl
none_or false value is = is

-- ---- an app

why : (o : AppOutcome) → has_float (why_object o) ≡ false
why Same = refl
why (Rows shown) = refl
why (NotCompared reason) = refl

rows_of : (o : AppOutcome) → AreFloatless (rows_in o)
rows_of Same = refl
rows_of (Rows shown) = rows shown.rows.items
rows_of (NotCompared reason) = refl

app : (d : AppDiff) → has_float (app_object d) ≡ false
app d =
    or_from (items_have_float (items_of (rows_in d.outcome))) _ (rows_of d.outcome)
    (or_from (has_float (why_object d.outcome)) false (why d.outcome) refl)

if_shown : (silent : Bool) (value : Data) (values : List Data) → has_float value ≡ false
    → AreFloatless values
    → AreFloatless (cons_option (if silent then None else Some value) values)
if_shown true value values is others = others
if_shown false value values is others = or_from (has_float value) _ is others

apps : (diffs : List AppDiff) → AreFloatless (app_objects diffs)
apps [] = refl
apps (d ∷ diffs) =
    if_shown (is_silent d) (app_object d) (app_objects diffs) (app d) (apps diffs)

-- ---- the whole

arrays : (changes : List ArrayChange) → AreFloatless (map array_object changes)
arrays [] = refl
arrays (c ∷ changes) = arrays changes

pub floatless : (old new : List ℕ) (changes : List ArrayChange) (diffs : List AppDiff)
    (lost same : Bool) → has_float (diff_object old new changes diffs lost same) ≡ false
floatless old new changes diffs lost same =
    or_from (items_have_float (items_of (app_objects diffs))) _ (apps diffs)
    (or_from (items_have_float (items_of (map array_object changes))) _ (arrays changes)
    (or_from (has_float (server_object old new)) false
    (none_or (bytes_eq old new) _ refl) refl))
