-- What is compared: two sides, and a scope of machines and states.
use Rattle.std.specs.Prelude.{ℕ, ◌-◌, ◌≤◌, List, [], ◌∷◌, ◌==◌, ◌&&◌, if◌then◌else◌}
use Rattle.std.specs.Str.{bytes_eq}
use Rattle.attrs.specs.Attributes.{Attributes}
use Rattle.cells.specs.declared.array.CellArray.{CellArray}
use Rattle.rule_lang.specs.Shapes.{granted}
use Rattle.diff_space.specs.declared.bounds.Bounds.{Bounds}
use Rattle.diff_space.specs.declared.bounds.RuleSide.{RuleSide}
use Rattle.diff_space.specs.declared.bounds.CellBound.{CellBound}
use Rattle.diff_space.specs.Machines.{IsMachine, Side, State}

abbrev pub side_of : RuleSide → Side
side_of r = record {
  shape = r.shape.now;
  statements = r.statements.now;
  contents = r.contents.now;
}

-- which machines and states are compared: those of an app from a day on, while these cells have at
-- least these values
pub record Scope : Type 0 where
  pub appid : List ℕ
  pub from_day : ℕ
  pub used : List CellBound

abbrev pub scope_of : Bounds → Scope
scope_of b = record { appid = b.appid.now; from_day = b.from_day; used = b.used.now }

-- the value given for a cell (by its array's name and its index), or else `value`
abbrev pub value_or : (value : ℕ) → CellBound → (name : List ℕ) → (index : ℕ) → ℕ
value_or value u name index =
    if (u.index == index) && bytes_eq u.array name then u.value else value

-- the same for a list, of which the last value counts
abbrev pub value_after : (value : ℕ) → List CellBound → (name : List ℕ) → (index : ℕ) → ℕ
value_after value [] name index = value
value_after value (u ∷ us) name index =
    value_after (value_or value u name index) us name index

-- the value that a cell has at least
abbrev pub least_value : List CellBound → (name : List ℕ) → (index : ℕ) → ℕ
least_value used name index = value_after 0 used name index

-- how many takes of one run a cell grants at most: what its quota leaves, as values only grow
abbrev pub most_takes : Scope → CellArray → (index : ℕ) → ℕ
most_takes x a index = granted a.quota - least_value x.used a.name index

-- a machine in a state, in this scope
pub record IsWithin (x : Scope) (a : Attributes) (g : State) : Type 0 where
  pub machine : IsMachine x.appid x.from_day a
  pub left : (array : CellArray) (index : ℕ) → g array index ≤ most_takes x array index
