-- Truth tables: how a condition is read back. A table says for each segment of a dimension whether
-- a part of the condition holds. No public clause uses this: the promise is in Conditions.antt.
use Rattle.std.specs.Prelude.{◌≡◌, ℕ, ◌+◌, ◌<◌, List, [], ◌∷◌, Option, Some, map, length, All}
use Rattle.std.specs.Prelude.{Bool, true, false, not, ◌==◌, ◌&&◌, ◌||◌, slice_get, slice_index}
use Rattle.std.specs.Prelude.{slice_index_or, if◌then◌else◌, IfSome}
use Rattle.std.specs.List.{list_all}
use Rattle.std.specs.Ordering.{nat_cmp}
use Rattle.attrs.specs.Attributes.{Attributes}
use Rattle.cells.specs.Arrays.{AppShape}
use Rattle.rule_lang.specs.Meaning.{Behaviour, allows, decide, decide_steps}
use Rattle.rule_lang.specs.Trees.{Tree, Both, Either}
use Rattle.rule_lang.specs.declared.condition.Step.{Step}
use Rattle.rule_lang.specs.declared.test.Comparison.TheVariants.{Ge, Le}
use Rattle.rule_lang.specs.declared.test.Test.{Test}
use Rattle.diff_space.specs.Coordinates.{Dimension, place_of}
use Rattle.diff_space.specs.Lines.{IsLine}
use Rattle.diff_space.specs.Machines.{State}
use Rattle.diff_space.specs.Numbers.{decides}
use Rattle.diff_space.specs.Scopes.{IsWithin, Scope}
use Rattle.diff_space.specs.Tests.{ComparesNumberAt}
use Rattle.diff_space.specs.declared.test_line.NumberComparison.{NumberComparison}
use Rattle.diff_rules.specs.Rows.{SegmentSet, has_segment}
use Rattle.diff_text.specs.declared.intervals.NumberRange.{NumberRange}
use Rattle.diff_text.specs.Conditions.{is_grant}
use Rattle.diff_text.specs.Grants.{is_range}

-- ---- tables

-- the place of a dimension, and a truth for each of its segments
pub record Table : Type 0 where
  pub dimension : ℕ
  pub holds : List Bool

abbrev pub holds_at : Table → (place : List ℕ) → Bool
holds_at t place = slice_index_or t.holds (slice_index place t.dimension) false

-- a part of a condition: tables that all hold
abbrev pub all_hold : List Table → (place : List ℕ) → Bool
all_hold tables place = list_all (λ t. holds_at t place) tables

-- the truths of a comparison, by the numbers at which the segments begin
abbrev pub truths : NumberComparison → (starts : List ℕ) → List Bool
truths by starts = map (λ start. allows by.comparison (nat_cmp start by.number)) starts

abbrev pub join_by : (is_and : Bool) → Bool → Bool → Bool
join_by true a b = a && b
join_by false a b = a || b

-- the truths of two tables of one dimension, segment by segment
abbrev pub pairwise : (Bool → Bool → Bool) → List Bool → List Bool → List Bool
pairwise op [] bs = []
pairwise op (a ∷ hs) [] = []
pairwise op (a ∷ hs) (b ∷ bs) = op a b ∷ pairwise op hs bs

-- ---- tables of a list of dimensions

module _ (ds : List Dimension) where
  -- a truth for each segment of a dimension that is there
  pub record IsTable (t : Table) : Type 0 where
    pub dimension : Dimension
    pub is_at : slice_get ds t.dimension ≡ Some dimension
    pub each : length t.holds ≡ length dimension.starts

  -- a segment of each dimension
  abbrev pub IsPlace : List ℕ → Type 0
  IsPlace place = (at : ℕ) (d : Dimension) → slice_get ds at ≡ Some d
      → slice_index place at < length d.starts

  -- the truths of a test by the numbers of its dimension
  pub record IsTestTable (test : Test) (t : Table) : Type 0 where
    pub by : NumberComparison
    pub compared : ComparesNumberAt ds t.dimension test by
    pub is : t.holds ≡ truths by compared.dimension.starts

  -- it holds as an operator of two others says
  pub record IsJoined (op : Bool → Bool → Bool) (first second joined : List Table) : Type 0 where
    pub tables : All IsTable joined
    pub holds : (place : List ℕ) → IsPlace place
        → all_hold joined place ≡ op (all_hold first place) (all_hold second place)

  pub record IsNegated (first negated : List Table) : Type 0 where
    pub tables : All IsTable negated
    pub holds : (place : List ℕ) → IsPlace place
        → all_hold negated place ≡ not (all_hold first place)

-- ---- what a part means

module _ (x : Scope) (ds : List Dimension) where
  -- the condition of a tree holds for a machine in a state exactly if the tables hold at its place
  pub record IsPartOf (c : Tree) (tables : List Table) : Type 0 where
    pub tables_are : All (IsTable ds) tables
    pub means : (s : AppShape) (a : Attributes) (g : State) → IsWithin x a g
        → (met unmet : Behaviour) → decide a s c met unmet
        ≡ (if all_hold tables (place_of ds a g) then met else unmet)

  -- the steps are a condition that holds exactly if the tables do
  pub record IsWhole (steps : List Step) (tables : List Table) : Type 0 where
    pub tables_are : All (IsTable ds) tables
    pub means : (s : AppShape) (a : Attributes) (g : State) → IsWithin x a g
        → (met unmet : Behaviour) → decide_steps a s steps met unmet
        ≡ (if all_hold tables (place_of ds a g) then met else unmet)

-- the part, if one was made, is that of the tree in any scope of the dimensions
abbrev pub IsMade : List Dimension → Tree → Option (List Table) → Type 0
IsMade ds c made = (x : Scope) → All (IsLine x) ds → IfSome made (IsPartOf x ds c)

abbrev pub tree_by : (is_and : Bool) → Tree → Tree → Tree
tree_by true b c = Both b c
tree_by false b c = Either b c

-- ---- comparing ranges and tables with sets

-- some numbers of the dimension, and no segment has numbers in the range and others
abbrev pub is_cut : Dimension → NumberRange → Bool
is_cut d r =
    is_range d r && decides d.starts d.last Ge r.low && decides d.starts d.last Le r.high

abbrev pub agrees_at : (segments : List ℕ) → (segment : ℕ) → (holds : Bool) → Bool
agrees_at segments segment true = has_segment segments segment
agrees_at segments segment false = not (has_segment segments segment)

-- the table holds at exactly these segments, of which the first one is `from`
abbrev pub agrees : (segments : List ℕ) → (from : ℕ) → (holds : List Bool) → Bool
agrees segments from [] = true
agrees segments from (h ∷ hs) = agrees_at segments from h && agrees segments (from + 1) hs

abbrev pub is_table_of : SegmentSet → Table → Bool
is_table_of set t = (set.dimension == t.dimension) && agrees set.segments 0 t.holds

abbrev pub first_is_table_of : SegmentSet → List Table → Bool
first_is_table_of set [] = false
first_is_table_of set (t ∷ ts) = is_table_of set t

abbrev pub later_tables : List Table → List Table
later_tables [] = []
later_tables (t ∷ ts) = ts

abbrev pub no_table : List Table → Bool
no_table [] = true
no_table (t ∷ ts) = false

-- the tables are those of these sets in order, but for those of cells that grant takes
abbrev pub are_tables_of : List Dimension → List SegmentSet → List Table → Bool
are_tables_of ds [] tables = no_table tables
are_tables_of ds (set ∷ sets) tables =
    if is_grant (slice_get ds set.dimension) then are_tables_of ds sets tables
    else first_is_table_of set tables && are_tables_of ds sets (later_tables tables)
