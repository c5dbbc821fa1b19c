-- Classes: partial places that decide what both rules give.
use Rattle.std.specs.Prelude.{◌≡◌, ℕ, List, Contains, Some, slice_index}
use Rattle.attrs.specs.Attributes.{Attributes}
use Rattle.diff_space.specs.Coordinates.{place_of}
use Rattle.diff_space.specs.Machines.{Side, State, gets}
use Rattle.diff_space.specs.Scopes.{IsWithin, Scope}
use Rattle.diff_space.specs.Spaces.{Space}
use Rattle.diff_rules.specs.Truths.{PartialPlace, partial_at}

-- a partial place, and what both rules give to each machine in each state that agrees with it
pub record PlaceClass : Type 0 where
  pub partial : PartialPlace
  pub current : ℕ
  pub next : ℕ

-- a place has each segment of a partial one
pub record Agrees (place : List ℕ) (partial : PartialPlace) : Type 0 where
  pub each : (at segment : ℕ) → partial_at partial at ≡ Some segment
      → slice_index place at ≡ segment

-- a machine in a state is in a class, and gets what the class says
pub record IsIn (old new : Side) (place : List ℕ) (a : Attributes) (g : State) (c : PlaceClass)
    : Type 0 where
  pub agrees : Agrees place c.partial
  pub current_is : gets old a g ≡ c.current
  pub next_is : gets new a g ≡ c.next

-- one of the classes has the machine in the state
pub record IsInSome (old new : Side) (place : List ℕ) (a : Attributes) (g : State)
    (classes : List PlaceClass) : Type 0 where
  pub one : PlaceClass
  pub there : Contains classes one
  pub is_in : IsIn old new place a g one

-- each machine in each state is in one of the classes
abbrev pub Covers : Scope → (old new : Side) → Space → List PlaceClass → Type 0
Covers x old new space classes =
    (a : Attributes) (g : State) → IsWithin x a g
    → IsInSome old new (place_of space.dimensions a g) a g classes
