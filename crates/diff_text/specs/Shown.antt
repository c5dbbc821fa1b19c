-- Rows as they are shown.
use Rattle.std.specs.Prelude.{◌≡◌, ℕ, ◌+◌, List, length, Option, option_map}
use Rattle.std.specs.Prelude.{Bool, true, ◌==◌, ◌&&◌, ◌||◌, nat_le, nat_lt, slice_get}
use Rattle.std.specs.Prelude.{IsPermutation}
use Rattle.std.specs.List.{AllZip, list_all, list_any, position_or_len}
use Rattle.cells.specs.declared.array.CellArray.{CellArray}
use Rattle.releases.specs.Release.{Release}
use Rattle.diff_space.specs.Coordinates.{Dimension}
use Rattle.diff_space.specs.Scopes.{Scope}
use Rattle.diff_rules.specs.Rows.{SegmentSet, DiffRow}
use Rattle.diff_text.specs.declared.kind.RowKind.{RowKind}
use Rattle.diff_text.specs.Conditions.{ReadBack, grant_sets, is_grant, tested_sets}
use Rattle.diff_text.specs.Grants.{AreGrantTexts}
use Rattle.diff_text.specs.Kinds.{is_lost, kind_in, release_of}

-- a release: its number in its manifest, and its version
pub record ShownRelease : Type 0 where
  pub number : ℕ
  pub version : List ℕ

-- a row: what it changes, the release of each manifest, and its condition. This is all of `tests`,
-- texts of the rule language, and of `grants`, words about cells with a quota.
pub record ShownRow : Type 0 where
  pub kind : RowKind
  pub current : Option ShownRelease
  pub next : Option ShownRelease
  pub tests : List (List ℕ)
  pub grants : List (List ℕ)

-- the first release of a manifest with this content, with the content's version
abbrev pub shown_by : (contents : List ℕ) → (content : ℕ) → Release → ShownRelease
shown_by contents content release = record {
  number = position_or_len (λ c. c == content) contents + 1;
  version = release.version;
}

abbrev pub shown_of : (all : List Release) → (contents : List ℕ) → (content : ℕ)
    → Option ShownRelease
shown_of all contents content =
    option_map (shown_by contents content) (release_of all content)

-- all sets are of cells that grant takes
abbrev pub are_grants : List Dimension → List SegmentSet → Bool
are_grants ds sets = list_all (λ set. is_grant (slice_get ds set.dimension)) sets

-- what is shown of rows: the releases of both manifests, the old ones first; the contents' numbers
-- of both; and their arrays
pub record RowSources : Type 0 where
  pub all : List Release
  pub old_contents : List ℕ
  pub new_contents : List ℕ
  pub old_arrays : List CellArray
  pub new_arrays : List CellArray

-- none, or the content of a release of a manifest, and of all
abbrev pub has_content : (contents : List ℕ) → (all : List Release) → (content : ℕ) → Bool
has_content contents all content =
    (content == 0)
    || (nat_lt (position_or_len (λ c. c == content) contents) (length contents)
    && nat_le content (length all))

-- both contents of a row are those of a release
abbrev pub has_releases : RowSources → DiffRow → Bool
has_releases from row =
    has_content from.old_contents from.all row.current
    && has_content from.new_contents from.all row.next

module _ (x : Scope) (ds : List Dimension) (from : RowSources) where
  -- how a row is shown
  pub record IsShownAs (row : DiffRow) (shown : ShownRow) : Type 0 where
    pub kind : shown.kind ≡ kind_in from.all row
    pub current : shown.current ≡ shown_of from.all from.old_contents row.current
    pub next : shown.next ≡ shown_of from.all from.new_contents row.next
    pub releases : has_releases from row ≡ true
    pub tests : ReadBack x ds (tested_sets ds row.sets) shown.tests
    pub grants : AreGrantTexts from.old_arrays from.new_arrays x ds (grant_sets ds row.sets)
        shown.grants

  -- each row is shown, and nothing else, in some order
  pub record AreShown (rows : List DiffRow) (shown : List ShownRow) : Type 0 where
    pub in_order : List ShownRow
    pub each : AllZip IsShownAs rows in_order
    pub same : IsPermutation in_order shown

-- some row is lost
abbrev pub some_shown_lost : List ShownRow → Bool
some_shown_lost shown = list_any (λ row. is_lost row.kind) shown
