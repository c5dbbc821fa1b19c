-- How the code makes a group: which dimensions are in it, and the cells that a combination has in
-- them. No public clause uses this: the promise is in Groups.antt.
use Rattle.std.specs.Prelude.{Contains, ◌≡◌, ℕ, ◌+◌, ◌^◌, ◌<◌, ◌≤◌, All, List, [], length, map}
use Rattle.std.specs.Prelude.{Option, Some, None, option_and_then, Bool, true, false, ◌&&◌, ◌==◌}
use Rattle.std.specs.Prelude.{not, slice_get, if◌then◌else◌}
use Rattle.attrs.specs.Attributes.{plain}
use Rattle.attrs.specs.declared.vocabulary.Attribute.{Attribute}
use Rattle.attrs.specs.declared.vocabulary.Attribute.TheVariants as attribute
use Rattle.attrs.specs.declared.vocabulary.Flag.{Flag}
use Rattle.attrs.specs.declared.vocabulary.Flag.TheVariants as flag
use Rattle.rule_lang.specs.Meaning.{bucket_by, remainder}
use Rattle.diff_space.specs.declared.combination.Combination.{Combination}
use Rattle.diff_space.specs.declared.coordinate.Coordinate.{Coordinate}
use Rattle.diff_space.specs.declared.coordinate.Coordinate.TheVariants as coordinate
use Rattle.diff_space.specs.declared.family.Family.{Family}
use Rattle.diff_space.specs.declared.family.GroupKind.{GroupKind}
use Rattle.diff_space.specs.declared.family.GroupKind.TheVariants as kind
use Rattle.diff_space.specs.Coordinates.{Dimension, begin_of}
use Rattle.diff_space.specs.Groups.{Group, HasTuple, Tuple, all_cells}
use Rattle.diff_space.specs.Fits.{cohort_fits, version_fits}
use Rattle.diff_space.specs.Numbers.{cell_at}

-- ---- the dimensions of a family

abbrev pub is_version : GroupKind → Bool
is_version kind.Version = true
is_version kind.Bucket = false

abbrev pub has_flag : GroupKind → Flag → Bool
has_flag kind.Version flag.VersionKnown = true
has_flag kind.Bucket flag.CohortKnown = true
has_flag k f = false

abbrev pub has_text : GroupKind → Attribute → Bool
has_text kind.Version attribute.Version = true
has_text kind.Bucket attribute.Cohort = true
has_text k n = false

abbrev pub is_place : Option ℕ → ℕ → Bool
is_place (Some other) place = other == place
is_place None place = false

-- the dimension at this place is in the family's group. A line of the version, or a dimension of
-- texts, is in it only if the family names its place
abbrev pub is_member : Family → (place : ℕ) → Coordinate → Bool
is_member f place coordinate.Version = is_version f.kind && is_place f.line place
is_member f place (coordinate.Bucket salt modulus) = not (is_version f.kind)
is_member f place (coordinate.Flag g) = has_flag f.kind g
is_member f place (coordinate.Text n) = has_text f.kind n && is_place f.text place
is_member f place of = false

-- the same of a dimension that may be absent
abbrev pub is_member_at : Family → (place : ℕ) → Option Dimension → Bool
is_member_at f place (Some d) = is_member f place d.of
is_member_at f place None = true

abbrev pub if_version : Dimension → Coordinate → Option Dimension
if_version d coordinate.Version = Some d
if_version d of = None

-- the line of the version, if there is one
abbrev pub line_at : List Dimension → (place : Option ℕ) → Option Dimension
line_at ds None = None
line_at ds (Some place) = option_and_then (λ d. if_version d d.of) (slice_get ds place)

abbrev pub texts_of : Option Dimension → List (List ℕ)
texts_of (Some d) = d.texts
texts_of None = []

-- the texts that are distinguished
abbrev pub texts_at : List Dimension → (place : Option ℕ) → List (List ℕ)
texts_at ds None = []
texts_at ds (Some place) = texts_of (slice_get ds place)

-- ---- combinations

-- the cell that a combination has in a dimension
abbrev pub cell_by : Coordinate → (starts : List ℕ) → Combination → ℕ
cell_by coordinate.Version starts c = c.number
cell_by (coordinate.Bucket salt modulus) starts c =
    cell_at starts (remainder modulus (bucket_by (plain [] None c.number) salt))
cell_by (coordinate.Flag f) starts c = cell_at starts (if c.is_known then 1 else 0)
cell_by of starts c = cell_at starts c.text

abbrev pub cell_or : Option Dimension → Combination → ℕ
cell_or (Some d) c = cell_by d.of d.starts c
cell_or None c = 0

abbrev pub cells_by : List Dimension → (members : List ℕ) → Combination → List ℕ
cells_by ds members c = map (λ m. cell_or (slice_get ds m) c) members

-- a version can be in this cell of the line (without a line, have any number) and have this text
abbrev pub version_may : (line : Option Dimension) → (text : Option (List ℕ)) → Combination → Bool
version_may (Some d) text c =
    version_fits text c.is_known (begin_of d c.number) (slice_get d.starts (c.number + 1))
version_may None text c = version_fits text c.is_known 0 None

abbrev pub is_possible_as : GroupKind → (line : Option Dimension) → (texts : List (List ℕ))
    → Combination → Bool
is_possible_as kind.Version line texts c = version_may line (slice_get texts c.text) c
is_possible_as kind.Bucket line texts c =
    cohort_fits texts (slice_get texts c.text) c.is_known c.number

-- a machine can have this combination
abbrev pub is_possible : Family → List Dimension → Combination → Bool
is_possible f ds c = is_possible_as f.kind (line_at ds f.line) (texts_at ds f.text) c

-- ---- numbers of combinations

-- how many cells of the version, or buckets, there are
abbrev pub count_by_line : Option Dimension → ℕ
count_by_line (Some d) = length d.starts
count_by_line None = 1

abbrev pub count_of : Family → List Dimension → ℕ
count_of f ds = if is_version f.kind then count_by_line (line_at ds f.line) else 10000

abbrev pub combination : (number : ℕ) → (is_known : Bool) → (text : ℕ) → Combination
combination number is_known text = record { number = number; is_known = is_known; text = text }

-- a line has at most 65535 cells
pub record AreFew (ds : List Dimension) : Type 0 where
  pub each : All (λ d. length d.starts < 2 ^ 16) ds

-- the group has a tuple with the cells of a combination that a machine can have
pub record HasCombination (f : Family) (ds : List Dimension) (group : Group) (c : Combination)
    : Type 0 where
  pub tuple : is_possible f ds c ≡ true → HasTuple group (cells_by ds group.dimensions c)

-- a group of a family's dimensions, with a tuple for each combination that a machine can have
pub record IsMadeOf (f : Family) (ds : List Dimension) (group : Group) : Type 0 where
  pub members : All (λ place. is_member_at f place (slice_get ds place) ≡ true) group.dimensions
  pub has : (number : ℕ) → number < count_of f ds → (text : ℕ)
      → text ≤ length (texts_at ds f.text) → (is_known : Bool)
      → HasCombination f ds group (combination number is_known text)

-- ---- additions

-- a tuple with these cells is there, and no other is gone
pub record HasAdded (old new : List Tuple) (cells : List ℕ) : Type 0 where
  pub has : Contains (all_cells new) cells
  pub kept : (others : List ℕ) → Contains (all_cells old) others → Contains (all_cells new) others

-- it is about the same dimensions, and no tuple is gone
pub record GrowsTo (old new : Group) : Type 0 where
  pub dimensions : new.dimensions ≡ old.dimensions
  pub tuples : (cells : List ℕ) → HasTuple old cells → HasTuple new cells
