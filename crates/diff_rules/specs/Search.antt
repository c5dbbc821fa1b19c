-- The search for classes: a list of partial places whose classes are still to be made. No promise
-- uses this.
use Rattle.std.specs.Prelude.{ℕ, ◌⊎◌, List, [], ◌∷◌, All, Contains, Option, Some, None}
use Rattle.std.specs.Prelude.{Bool, true, false, ◌&&◌, ◌==◌, if◌then◌else◌}
use Rattle.std.specs.Prelude.{slice_index_or, slice_set}
use Rattle.attrs.specs.Attributes.{Attributes}
use Rattle.diff_space.specs.Coordinates.{place_of}
use Rattle.diff_space.specs.Groups.{Group, HasTuple, cells_at}
use Rattle.diff_space.specs.Machines.{Side, State}
use Rattle.diff_space.specs.Scopes.{IsWithin, Scope}
use Rattle.diff_space.specs.Spaces.{IsSpaceOf, Space}
use Rattle.diff_rules.specs.declared.plan_run.PairRun.{PairRun}
use Rattle.diff_rules.specs.declared.plan_run.PairRun.TheVariants as pair
use Rattle.diff_rules.specs.declared.plan_run.PlanRun.{PlanRun}
use Rattle.diff_rules.specs.declared.plan_run.PlanRun.TheVariants.{Gives, Needs, Unclear}
use Rattle.diff_rules.specs.Classes.{Agrees, PlaceClass, IsInSome}
use Rattle.diff_rules.specs.Truths.{PartialPlace, partial_at}

-- what both rules give, or the dimension whose segment is needed
abbrev pub pair_run : (old new : PlanRun) → PairRun
pair_run (Gives now) (Gives next) = pair.Both now next
pair_run (Gives now) (Needs at) = pair.Needs at
pair_run (Gives now) Unclear = pair.Unclear
pair_run (Needs at) new = pair.Needs at
pair_run Unclear new = pair.Unclear

-- the partial place has this segment, or none, in the dimension
abbrev pub fits_segment : Option ℕ → (segment : ℕ) → Bool
fits_segment (Some own) segment = own == segment
fits_segment None segment = true

-- the segments of these dimensions are those of the partial place
abbrev pub fits : (dimensions segments : List ℕ) → PartialPlace → Bool
fits [] segments partial = true
fits (d ∷ ds) [] partial = true
fits (d ∷ ds) (segment ∷ segments) partial =
    fits_segment (partial_at partial d) segment && fits ds segments partial

-- ---- the possible segments of a dimension

-- the segment of a dimension in a tuple
abbrev pub segment_in : (dimensions segments : List ℕ) → (dimension : ℕ) → Option ℕ
segment_in [] segments d = None
segment_in (e ∷ ds) [] d = None
segment_in (e ∷ ds) (segment ∷ segments) d =
    if e == d then Some segment else segment_in ds segments d

abbrev pub mark_if : List Bool → Option ℕ → List Bool
mark_if marks (Some segment) = slice_set marks segment true
mark_if marks None = marks

-- a tuple with the segments of the partial place marks that of the dimension
abbrev pub marked_by : (dimensions : List ℕ) → PartialPlace → (dimension : ℕ) → List Bool
    → (segments : List ℕ) → List Bool
marked_by ds partial d marks segments =
    if fits ds segments partial then mark_if marks (segment_in ds segments d) else marks

abbrev pub marked_by_all : (dimensions : List ℕ) → PartialPlace → (dimension : ℕ) → List Bool
    → (tuples : List (List ℕ)) → List Bool
marked_by_all ds partial d marks [] = marks
marked_by_all ds partial d marks (segments ∷ tuples) =
    marked_by_all ds partial d (marked_by ds partial d marks segments) tuples

-- the segment is marked; without marks each one is possible
abbrev pub is_possible : Option (List Bool) → (segment : ℕ) → Bool
is_possible (Some marks) segment = slice_index_or marks segment false
is_possible None segment = true

-- each group has the tuple of the place
abbrev pub HasTuples : List Group → (place : List ℕ) → Type 0
HasTuples groups place = All (λ group. HasTuple group (cells_at place group.dimensions)) groups

-- the place agrees with one of these partial places
pub record IsPending (left : List PartialPlace) (place : List ℕ) : Type 0 where
  pub partial : PartialPlace
  pub there : Contains left partial
  pub agrees : Agrees place partial

-- a machine in a state is in one of the classes, or agrees with a partial place that is left
abbrev pub IsInSomeOrLeft : (old new : Side) → (place : List ℕ) → Attributes → State
    → List PlaceClass → (left : List PartialPlace) → Type 0
IsInSomeOrLeft old new place a g classes left =
    IsInSome old new place a g classes ⊎ IsPending left place

-- a machine that was in a class or left before a step is in a class or left after it
abbrev pub LosesNoMachine : Space → List PlaceClass → List PartialPlace → List PlaceClass
    → List PartialPlace → Type 0
LosesNoMachine space classes left others more =
    (x : Scope) (old new : Side) → IsSpaceOf x old new space
    → (a : Attributes) (g : State) → IsWithin x a g
    → IsInSomeOrLeft old new (place_of space.dimensions a g) a g classes left
    → IsInSomeOrLeft old new (place_of space.dimensions a g) a g others more
