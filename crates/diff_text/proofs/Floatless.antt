-- The objects of rows have no float.
use Rattle.std.proofs.Common.{◌≡◌, refl, ℕ, List, [], ◌∷◌, ◌++◌, Bool, true, false, map}
use Rattle.std.specs.Prelude.{Option, Some, None, ◌||◌}
use Rattle.serde_json.specs.View.{items_of}
use Rattle.serde_json.specs.Written.{has_float, items_have_float}
use Rattle.diff_text.specs.Objects.{release_object, row_object, text_values}
use Rattle.diff_text.specs.Shown.{ShownRelease, ShownRow}

or_neither : (a b : Bool) → a ≡ false → b ≡ false → (a || b) ≡ false
or_neither true b first second = first
or_neither false b first second = second

release : (r : Option ShownRelease) → has_float (release_object r) ≡ false
release None = refl
release (Some r) = refl

texts : (ts : List (List ℕ)) → items_have_float (items_of (text_values ts)) ≡ false
texts [] = refl
texts (t ∷ ts) = texts ts

row : (r : ShownRow) → has_float (row_object r) ≡ false
row r =
    or_neither (has_float (release_object r.next)) _ (release r.next)
    (or_neither (has_float (release_object r.current)) _ (release r.current)
    (or_neither (items_have_float (items_of (text_values (r.tests ++ r.grants)))) false
    (texts (r.tests ++ r.grants)) refl))

pub rows : (those : List ShownRow)
    → items_have_float (items_of (map row_object those)) ≡ false
rows [] = refl
rows (r ∷ those) = or_neither (has_float (row_object r)) _ (row r) (rows those)
