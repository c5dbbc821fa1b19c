-- Rows as JSON (RFC 8259). The members of an object are sorted by name.
use Rattle.std.specs.Prelude.{ℕ, List, ◌++◌, codes, map, Option, Some, None}
use Rattle.serde_json.specs.Data.{Data, null, boolean, number, string, array, object, unsigned}
use Rattle.serde_json.specs.Data.{no_members, member}
use Rattle.serde_json.specs.View.{items_of}
use Rattle.diff_text.specs.declared.shown.AppRows.{AppRows}
use Rattle.diff_text.specs.Kinds.{is_lost, name_of}
use Rattle.diff_text.specs.Shown.{ShownRelease, ShownRow}

-- null is none
abbrev pub release_object : Option ShownRelease → Data
release_object None = null
release_object (Some release) = object (
    member (codes "release") (number (unsigned release.number)) (
    member (codes "version") (string release.version)
    no_members))

abbrev pub text_values : List (List ℕ) → List Data
text_values texts = map string texts

-- `when` has what `and` joins; there is nothing in it for everybody
abbrev pub row_object : ShownRow → Data
row_object row = object (
    member (codes "kind") (string (name_of row.kind)) (
    member (codes "lost") (boolean (is_lost row.kind)) (
    member (codes "next") (release_object row.next) (
    member (codes "now") (release_object row.current) (
    member (codes "when") (array (items_of (text_values (row.tests ++ row.grants))))
    no_members)))))

abbrev pub row_objects : AppRows → List Data
row_objects rows = map row_object rows.rows.items
