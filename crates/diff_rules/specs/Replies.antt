-- A run on a server is a run in some state, if each cell with a quota replies by its values.
use Rattle.std.specs.Prelude.{◌≡◌, ℕ, ◌+◌, ◌<◌, ◌≤◌, List, ◌∷◌, ◌++◌, All, Bool, true, Some, ◌==◌}
use Rattle.std.specs.Prelude.{is_some, nat_lt}
use Rattle.std.specs.List.{AllPairs, count_by}
use Rattle.attrs.specs.Attributes.{Attributes}
use Rattle.cells.specs.Arrays.{AppShape, IsShape}
use Rattle.cells.specs.declared.array.CellArray.{CellArray}
use Rattle.cells.specs.declared.event.CellEvent.{CellEvent}
use Rattle.rule_lang.specs.Fits.{fits}
use Rattle.rule_lang.specs.Meaning.{HasTrace, behaviour}
use Rattle.rule_lang.specs.Shapes.{array_named, granted}
use Rattle.diff_space.specs.declared.bounds.CellBound.{CellBound}
use Rattle.diff_space.specs.Machines.{IsMachine, Side, State, content_of, declared, gets}
use Rattle.diff_space.specs.Scopes.{IsWithin, Scope, least_value}

-- each cell of each array with a quota that a rule can name
abbrev pub EachQuotaCell : AppShape → (CellArray → (index : ℕ) → Type 0) → Type 0
EachQuotaCell s P = (array : CellArray) (index : ℕ) → array_named array.name s.arrays ≡ Some array
    → is_some array.quota ≡ true → index < array.length → P array index

-- the event is on this cell
abbrev pub on_cell : (cell : ℕ) → CellEvent → Bool
on_cell cell e = e.cell == cell

-- a cell replies to the additions of one run by rising numbers
abbrev pub RisesOn : (cell : ℕ) → List CellEvent → Type 0
RisesOn cell events = AllPairs (λ e f. e.cell ≡ cell → f.cell ≡ cell → e.reply < f.reply) events

-- each cell with a quota replies by rising numbers
abbrev pub RepliesRise : AppShape → List CellEvent → Type 0
RepliesRise s events = EachQuotaCell s (λ array index. RisesOn (array.base + index) events)

-- each cell with a quota replies at least the value that is given for it
abbrev pub RepliesAreFrom : List CellBound → AppShape → List CellEvent → Type 0
RepliesAreFrom used s events = EachQuotaCell s (λ array index.
    All (λ e. e.cell ≡ array.base + index → least_value used array.name index ≤ e.reply) events)

-- on cells with a quota, the state grants exactly the additions whose reply is below the quota
abbrev pub GrantsAlike : AppShape → List CellEvent → State → Type 0
GrantsAlike s events g = EachQuotaCell s (λ array index. (done rest : List CellEvent)
    (e : CellEvent) → events ≡ done ++ e ∷ rest → e.cell ≡ array.base + index
    → nat_lt e.reply (granted array.quota)
    ≡ nat_lt (count_by (on_cell (array.base + index)) done) (g (declared array) index))

-- each run chooses what its machine gets in some state, which grants the same takes
abbrev pub RunsAreInStates : Type 0
RunsAreInStates = (x : Scope) (side : Side) (a : Attributes) (events : List CellEvent)
    (choice : ℕ) → IsShape side.shape → fits side.shape side.statements ≡ true
    → IsMachine x.appid x.from_day a
    → HasTrace (behaviour a side.shape side.statements) events choice
    → RepliesRise side.shape events → RepliesAreFrom x.used side.shape events
    → (g : State) × IsWithin x a g × (gets side a g ≡ content_of side.contents choice)
    × GrantsAlike side.shape events g
