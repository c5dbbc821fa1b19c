-- The names between which all rows of a series are. Rows are sorted by name, byte by byte; a line
-- feed is the byte after a tab.
use Rattle.std.specs.Prelude.{◌≡◌, ℕ, Bool, true, List, [], ◌++◌, Option, Some, None}
use Rattle.std.specs.Prelude.{String, codes, is_some, string_bytes, string_cmp}
use Rattle.std.specs.BTreeMap.Range.{IsLeBy, entries_between, range_contains}
use Rattle.std.specs.declared.ops.Bound.TheVariants.{Excluded, Included}
use Rattle.std.specs.declared.alloc.Global.{Global}
use Rattle.report.specs.Tallies.{Rows}
use Rattle.timeline.specs.Marks.{Drawn, moment_of}
use Rattle.timeline.specs.declared.series_rows.SeriesNames.{SeriesNames}

-- the texts of the names of a series before the moment, with tabs between them
abbrev pub with_version : Option (List ℕ) → List ℕ
with_version (Some version) = codes "\t" ++ version
with_version None = []

abbrev pub texts_of : Drawn → List ℕ
texts_of drawn = drawn.what ++ codes "\t" ++ drawn.app ++ with_version drawn.version

-- whether a name is from the first of two on, and before the second
abbrev pub is_between : SeriesNames → String Global → Bool
is_between names name =
    range_contains string_cmp (Included names.first) (Excluded names.end) name

abbrev pub rows_between : SeriesNames → Rows → Rows
rows_between names rows =
    entries_between string_cmp (Included names.first) (Excluded names.end) rows

pub record Encloses (drawn : Drawn) (names : SeriesNames) : Type 0 where
  pub forward : IsLeBy string_cmp names.first names.end
  pub all : (name : String Global) → is_some (moment_of drawn (string_bytes name)) ≡ true
      → is_between names name ≡ true
