-- Rows: machines in states, by sets of segments, and what they get from both rules. Rows are
-- complete, true and apart.
use Rattle.std.specs.Prelude.{◌≡◌, ◌≢◌, ℕ, ◌-◌, List, length, All, Contains, slice_get}
use Rattle.std.specs.Prelude.{slice_index, Bool, true, false, ◌&&◌, ◌==◌, nat_lt, not}
use Rattle.std.specs.Prelude.{Option, Some, None}
use Rattle.std.specs.List.{list_all, list_any}
use Rattle.attrs.specs.Attributes.{Attributes}
use Rattle.diff_space.specs.Coordinates.{Dimension, place_of}
use Rattle.diff_space.specs.Machines.{Side, State, gets}
use Rattle.diff_space.specs.Numbers.{are_rising}
use Rattle.diff_space.specs.Scopes.{IsWithin, Scope}
use Rattle.diff_space.specs.Spaces.{IsSpaceOf, Space}

-- some segments of a dimension
pub record SegmentSet : Type 0 where
  pub dimension : ℕ
  pub segments : List ℕ

-- sets of segments, and what both rules give
pub record DiffRow : Type 0 where
  pub current : ℕ
  pub next : ℕ
  pub sets : List SegmentSet

-- one of the segments is this one
abbrev pub has_segment : (segments : List ℕ) → (segment : ℕ) → Bool
has_segment segments segment = list_any (λ c. c == segment) segments

-- the row has a place: each of its sets has the place's segment
abbrev pub row_agrees : DiffRow → (place : List ℕ) → Bool
row_agrees row place =
    list_all (λ set. has_segment set.segments (slice_index place set.dimension)) row.sets

-- some of the dimension's segments in their order, but not all
abbrev pub are_some : Option Dimension → (segments : List ℕ) → Bool
are_some None segments = false
are_some (Some d) segments =
    are_rising (length d.starts - 1) segments && nat_lt (length segments) (length d.starts)

-- some segments of a dimension that there is, in their order, but not all
abbrev pub is_set : List Dimension → SegmentSet → Bool
is_set ds set = are_some (slice_get ds set.dimension) set.segments

-- its contents differ, and `is_set` holds for each of its sets
abbrev pub is_row : List Dimension → DiffRow → Bool
is_row ds row = not (row.current == row.next) && list_all (is_set ds) row.sets

module _ (x : Scope) (old new : Side) (space : Space) (rows : List DiffRow) where
  -- a machine in a state is in the row
  abbrev pub IsInRow : DiffRow → Attributes → State → Type 0
  IsInRow row a g = row_agrees row (place_of space.dimensions a g) ≡ true

  -- a machine that is in no row gets the same from both rules
  abbrev pub AreComplete : Type 0
  AreComplete = (a : Attributes) (g : State) → IsWithin x a g
      → ((row : DiffRow) → Contains rows row → IsInRow row a g → ⊥)
      → gets old a g ≡ gets new a g

  -- a machine that is in a row gets what it says, which differs
  abbrev pub AreTrue : Type 0
  AreTrue = (a : Attributes) (g : State) → IsWithin x a g
      → (row : DiffRow) → Contains rows row → IsInRow row a g
      → (gets old a g ≡ row.current) × (gets new a g ≡ row.next) × (row.current ≢ row.next)

  -- no machine in a state is in two rows
  abbrev pub AreApart : Type 0
  AreApart = (a : Attributes) (g : State) → IsWithin x a g
      → (k l : ℕ) (row other : DiffRow) → slice_get rows k ≡ Some row
      → slice_get rows l ≡ Some other → IsInRow row a g → IsInRow other a g → k ≡ l

-- the rows of two rules, and the space of these
pub record IsDiff (x : Scope) (old new : Side) (space : Space) (rows : List DiffRow) : Type 0 where
  pub of : IsSpaceOf x old new space
  pub complete : AreComplete x old new space rows
  pub are_true : AreTrue x old new space rows
  pub apart : AreApart x old new space rows
  pub sets : All (λ row. is_row space.dimensions row ≡ true) rows
