-- What a rule gives to whom: machines that request an update, states of the cells with a quota, and
-- the release that a machine gets in a state.
use Rattle.std.specs.Prelude.{◌≡◌, ℕ, ◌+◌, ◌-◌, ◌^◌, ◌≤◌, ℤ, List, [], ◌∷◌, Option, Some, None}
use Rattle.std.specs.Prelude.{Bool, true, ◌==◌, ◌&&◌, nat_le, nat_lt, slice_index, if◌then◌else◌}
use Rattle.std.specs.List.{count_by, find}
use Rattle.attrs.specs.Attributes.{Attributes}
use Rattle.attrs.specs.Context.{HasContextRanges}
use Rattle.attrs.specs.Facts.{attributes_of}
use Rattle.attrs.specs.declared.facts.AppFacts.{AppFacts}
use Rattle.attrs.specs.declared.facts.RequestFacts.{RequestFacts}
use Rattle.cells.specs.Arrays.{AppShape}
use Rattle.cells.specs.declared.array.CellArray.{CellArray}
use Rattle.rule_lang.specs.Meaning.{Behaviour, Chooses, Operates, behaviour}
use Rattle.rule_lang.specs.declared.rule.Statement.{Statement}

-- ---- machines

-- the attributes of this app in a request at a moment from this day on, in which it requests an
-- update; in the ranges that their type keeps
pub record IsMachine (appid : List ℕ) (from_day : ℕ) (a : Attributes) : Type 0 where
  pub app : AppFacts
  pub request : RequestFacts
  pub moment : ℤ
  pub is_app : app.appid ≡ appid
  pub requests : app.updatecheck ≡ true
  pub is_made : a ≡ attributes_of app request moment
  pub ranges : HasContextRanges a.context
  pub late : from_day ≤ a.context.today

-- ---- states

-- an array as a manifest declares it, whichever cells it has
abbrev pub declared : CellArray → CellArray
declared a = record a { base = 0 }

-- how many takes of one run each cell grants, by its array as declared and its index. So a cell of
-- an array that two manifests declare alike is one cell, and otherwise there are two.
abbrev pub State : Type 0
State = CellArray → (index : ℕ) → ℕ

abbrev pub has_cell : CellArray → ℕ → Bool
has_cell a cell = nat_le a.base cell && nat_lt cell (a.base + a.length)

abbrev pub left_of : State → Option CellArray → (cell : ℕ) → ℕ
left_of g (Some a) cell = g (declared a) (cell - a.base)
left_of g None cell = 0

-- how many takes of one run a cell of a shape grants
abbrev pub left_in : State → AppShape → (cell : ℕ) → ℕ
left_in g s cell = left_of g (find (λ a. has_cell a cell) s.arrays) cell

-- ---- what a machine gets

abbrev pub takes_of : (cell : ℕ) → (taken : List ℕ) → ℕ
takes_of cell taken = count_by (λ c. c == cell) taken

-- a cell that grants `left` takes of a run grants one more if fewer than that were taken: it
-- replies 0. Otherwise it replies a number above each quota
abbrev pub reply_after : (left taken : ℕ) → ℕ
reply_after left taken = if nat_lt taken left then 0 else 2 ^ 63

-- the choice of a behaviour, if each cell grants `left` takes, and the run has added to the cells
-- of `taken` before
abbrev pub chooses_in : (left : ℕ → ℕ) → (taken : List ℕ) → Behaviour → ℕ
chooses_in left taken (Chooses k) = k
chooses_in left taken (Operates cell op next) =
    chooses_in left (cell ∷ taken) (next (reply_after (left cell) (takes_of cell taken)))

-- one side of a comparison: the shape of an app in a manifest, the statements of its rule, and the
-- number of each release's content, from 1. Releases with the same content, in either manifest,
-- have the same number.
pub record Side : Type 0 where
  pub shape : AppShape
  pub statements : List Statement
  pub contents : List ℕ

abbrev pub content_of : (contents : List ℕ) → (release : ℕ) → ℕ
content_of contents release = if release == 0 then 0 else slice_index contents (release - 1)

-- the content that a machine gets in a state, or 0
abbrev pub gets : Side → Attributes → State → ℕ
gets side a g =
    content_of side.contents
    (chooses_in (left_in g side.shape) [] (behaviour a side.shape side.statements))
