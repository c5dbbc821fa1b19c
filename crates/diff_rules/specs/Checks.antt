-- The check of rows against classes. The promise about rows follows from it, since the classes
-- cover all machines in all states.
use Rattle.std.specs.Prelude.{ℕ, List, [], ◌∷◌, Bool, false, ◌&&◌, ◌==◌, not}
use Rattle.std.specs.Prelude.{Option, Some, None, if◌then◌else◌}
use Rattle.std.specs.List.{list_all, list_any}
use Rattle.diff_rules.specs.Classes.{PlaceClass}
use Rattle.diff_rules.specs.Rows.{SegmentSet, DiffRow, has_segment}
use Rattle.diff_rules.specs.Truths.{PartialPlace, partial_at}

-- there is a segment, and it is one of these
abbrev pub in_segments : (segments : List ℕ) → Option ℕ → Bool
in_segments segments (Some segment) = has_segment segments segment
in_segments segments None = false

-- there is a segment, and it is none of these
abbrev pub out_of_segments : (segments : List ℕ) → Option ℕ → Bool
out_of_segments segments (Some segment) = not (has_segment segments segment)
out_of_segments segments None = false

-- the set has the segment of its dimension
abbrev pub in_set : PartialPlace → SegmentSet → Bool
in_set partial set = in_segments set.segments (partial_at partial set.dimension)

-- the set lacks the segment of its dimension
abbrev pub out_of_set : PartialPlace → SegmentSet → Bool
out_of_set partial set = out_of_segments set.segments (partial_at partial set.dimension)

-- each place that agrees with the partial one is in the row
abbrev pub has_all : DiffRow → PartialPlace → Bool
has_all row partial = list_all (in_set partial) row.sets

-- no place that agrees with the partial one is in the row
abbrev pub has_none : PartialPlace → DiffRow → Bool
has_none partial row = list_any (out_of_set partial) row.sets

-- no place that agrees with the partial one is in a row
abbrev pub have_none : List DiffRow → PartialPlace → Bool
have_none rows partial = list_all (has_none partial) rows

-- the row has the whole class, and says what the class gets
abbrev pub is_row_of : DiffRow → PlaceClass → Bool
is_row_of row c = (row.current == c.current) && (row.next == c.next) && has_all row c.partial

-- one row has the whole class and says what it gets, and the other rows have no part of it
abbrev pub is_in_one : List DiffRow → PlaceClass → Bool
is_in_one [] c = false
is_in_one (row ∷ rows) c =
    if is_row_of row c then have_none rows c.partial
    else has_none c.partial row && is_in_one rows c

-- a class whose contents differ is in one row, and another class is in none
abbrev pub is_right : List DiffRow → PlaceClass → Bool
is_right rows c = if c.current == c.next then have_none rows c.partial else is_in_one rows c

-- each class is right
abbrev pub are_right : List DiffRow → List PlaceClass → Bool
are_right rows classes = list_all (is_right rows) classes
