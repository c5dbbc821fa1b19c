-- Groups of dimensions that depend on each other. A group lists the tuples of cells that a machine
-- can have in them.
use Rattle.std.specs.Prelude.{ℕ, List, map, Contains, slice_index}
use Rattle.attrs.specs.Attributes.{Attributes}
use Rattle.diff_space.specs.Coordinates.{Dimension, place_of}
use Rattle.diff_space.specs.Machines.{State}

-- a tuple: the cells of the group's dimensions in their order, and the buckets that have it
pub record Tuple : Type 0 where
  pub cells : List ℕ
  pub buckets : List ℕ

-- the numbers of its dimensions, and its tuples
pub record Group : Type 0 where
  pub dimensions : List ℕ
  pub tuples : List Tuple

abbrev pub all_cells : List Tuple → List (List ℕ)
all_cells tuples = map (λ t. t.cells) tuples

-- some tuple has these cells
abbrev pub HasTuple : Group → (cells : List ℕ) → Type 0
HasTuple group cells = Contains (all_cells group.tuples) cells

-- the cells of a place in these dimensions
abbrev pub cells_at : (place dimensions : List ℕ) → List ℕ
cells_at place dimensions = map (λ d. slice_index place d) dimensions

-- some tuple has the cells of each machine in each state
abbrev pub IsGroup : (Is : Attributes → State → Type 0) → List Dimension → Group → Type 0
IsGroup Is dimensions group = (a : Attributes) (g : State) → Is a g
    → HasTuple group (cells_at (place_of dimensions a g) group.dimensions)
