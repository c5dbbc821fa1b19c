-- The versions of an app, in the order of the rows, which are sorted by name, and their counts.
use Rattle.std.specs.Prelude.{ℕ, List, [], ◌∷◌, ◌++◌, codes, string_bytes}
use Rattle.report.specs.Names.{listed}
use Rattle.report.specs.Tallies.{Rows}
use Rattle.timeline.specs.Marks.{drawn_count, of_all, of_version, rest_after}
use Rattle.timeline.specs.declared.legend.VersionCounts.{VersionCounts}

-- the versions of an app in the rows of versions
abbrev pub versions_in_rows : List ℕ → Rows → List (List ℕ)
versions_in_rows app [] = []
versions_in_rows app (row ∷ rows) =
    listed (rest_after app (string_bytes row.0)) ++ versions_in_rows app rows

module _ (rows : Rows) (app version : List ℕ) where
  -- all counts of one kind of a version
  abbrev pub count_of_version : (what : List ℕ) → ℕ
  count_of_version what = drawn_count rows (of_version (of_all what app) version)

  -- the update checks, offers, ended installs and failed installs of a version
  abbrev pub counts_of_version : VersionCounts
  counts_of_version = record {
    asks = count_of_version (codes "asks");
    offers = count_of_version (codes "offers");
    installs = count_of_version (codes "installs");
    failures = count_of_version (codes "failures");
  }
