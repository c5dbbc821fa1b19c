-- The promise of a comparison: a machine that is in no row of an app compared by rows gets the same
-- from both manifests. One that is in a row gets what the row says, and none is in two (`IsDiff`).
-- What a server gives a machine, the rule gives it in some state. A comparison may always say that
-- an app isn't compared.
use Rattle.std.specs.Prelude.{◌≡◌, ◌⊎◌, ℕ, List, map, Contains, Option, Some, None, true}
use Rattle.std.specs.String.{string_bytes}
use Rattle.attrs.specs.Attributes.{Attributes}
use Rattle.cells.specs.Arrays.{AppShape, IsShape}
use Rattle.cells.specs.declared.event.CellEvent.{CellEvent}
use Rattle.load.specs.declared.judged.JudgedApp.{JudgedApp}
use Rattle.diff_rules.specs.Replies.{GrantsAlike, RepliesAreFrom, RepliesRise}
use Rattle.diff_rules.specs.Rows.{AreApart, AreComplete, AreTrue, DiffRow, row_agrees}
use Rattle.diff_space.specs.Coordinates.{place_of}
use Rattle.rule_lang.specs.Meaning.{HasTrace, behaviour}
use Rattle.diff_space.specs.declared.bounds.CellBound.{CellBound}
use Rattle.diff_space.specs.Machines.{IsMachine, Side, State, content_of, declared}
use Rattle.diff_space.specs.Machines.{gets}
use Rattle.diff_space.specs.Scopes.{IsWithin, Scope}
use Rattle.diff_space.specs.Spaces.{Space}
use Rattle.diff_manifests.specs.Apps.{IsSameProgram, releases_in, side_in}
use Rattle.diff_manifests.specs.Outcomes.{HasRows, IsSame}
use Rattle.diff_manifests.specs.Reports.{AreAppDiffs, IsAppDiff, have_app}
use Rattle.diff_manifests.specs.declared.opened.OpenedBoth.{OpenedBoth}
use Rattle.diff_manifests.specs.declared.app_diff.AppDiff.{AppDiff}

-- ---- the same app

-- a machine in a state gets the same content from both manifests
pub record GetsTheSame (old new : Option JudgedApp) (a : Attributes) (g : State) : Type 0 where
  pub old_side : Side
  pub new_side : Side
  pub old_is : side_in (releases_in old new) old ≡ Some old_side
  pub new_is : side_in (releases_in old new) new ≡ Some new_side
  pub same : gets old_side a g ≡ gets new_side a g

-- either that, or both manifests have the app with the same program; then nothing more is promised
pub data IsAlike (old new : Option JudgedApp) (a : Attributes) (g : State) : Type 0 where
  same_content : GetsTheSame old new a g → IsAlike old new a g
  same_program : (app other : JudgedApp) → old ≡ Some app → new ≡ Some other
      → IsSameProgram app other → IsAlike old new a g

-- ---- servers

-- the shape of an app on a server: as many releases, and arrays that are declared alike, but may
-- have other cells
pub record IsServedShape (own served : AppShape) : Type 0 where
  pub shape : IsShape served
  pub releases : served.releases ≡ own.releases
  pub arrays : map declared own.arrays ≡ map declared served.arrays

abbrev pub served_side : Side → AppShape → Side
served_side side shape =
    record { shape = shape; statements = side.statements; contents = side.contents }

-- a run of the rule on a server gives a machine this content. The replies of a cell with a quota
-- rise along the run, and are at least the value that the cell is known to have
pub record Serves (x : Scope) (side : Side) (a : Attributes) (content : ℕ) : Type 0 where
  pub shape : AppShape
  pub served : IsServedShape side.shape shape
  pub machine : IsMachine x.appid x.from_day a
  pub events : List CellEvent
  pub choice : ℕ
  pub run : HasTrace (behaviour a shape side.statements) events choice
  pub rise : RepliesRise shape events
  pub from : RepliesAreFrom x.used shape events
  pub content_is : content ≡ content_of side.contents choice

-- a state gives the machine this content, and grants the takes that the run's cells granted
pub record GivesAlike (x : Scope) (side : Side) (a : Attributes) (content : ℕ)
    (run : Serves x side a content) : Type 0 where
  pub state : State
  pub within : IsWithin x a state
  pub gives : gets side a state ≡ content
  pub alike : GrantsAlike run.shape run.events state

-- the row has the machine in the state
abbrev pub HasMachine : Space → DiffRow → Attributes → State → Type 0
HasMachine space row a g = row_agrees row (place_of space.dimensions a g) ≡ true

-- the content is what a row with the machine in the state says, or what the other manifest also
-- gives the machine
abbrev pub IsRowValue : Space → List DiffRow → (row_value : DiffRow → ℕ) → (other : Side)
    → Attributes → State
    → (content : ℕ) → Type 0
IsRowValue space rows row_value other a g content =
    ((row : DiffRow) × Contains rows row × HasMachine space row a g × (row_value row ≡ content))
    ⊎ (gets other a g ≡ content)

-- the rows say what a server of one manifest gives a machine, in a state that grants the same takes
abbrev pub RowsMatchRuns : Scope → Space → List DiffRow → (side other : Side)
    → (row_value : DiffRow → ℕ) → Type 0
RowsMatchRuns x space rows side other row_value =
    (a : Attributes) (content : ℕ) (run : Serves x side a content)
    → (given : GivesAlike x side a content run) × IsRowValue space rows row_value other a
    given.state content

-- ---- the promise of the command

-- for an app that is compared by rows: the rows are true of machines in states, and of runs of
-- servers
pub record RowsAreSo (x : Scope) (old new : Option JudgedApp) (space : Space) (rows : List DiffRow)
    (has : HasRows x old new space rows) : Type 0 where
  pub no_row : AreComplete x has.old_side has.new_side space rows
  pub true_of : AreTrue x has.old_side has.new_side space rows
  pub apart : AreApart x has.old_side has.new_side space rows
  pub old_runs : RowsMatchRuns x space rows has.old_side has.new_side (λ row. row.current)
  pub new_runs : RowsMatchRuns x space rows has.new_side has.old_side (λ row. row.next)

-- the comparison of an app is among these
pub record IsReported (both : OpenedBoth) (from_day : ℕ) (used : List CellBound)
    (diffs : List AppDiff) (appid : List ℕ) : Type 0 where
  pub diff : AppDiff
  pub there : Contains diffs diff
  pub appid_is : string_bytes diff.appid ≡ appid
  pub is_diff : IsAppDiff both from_day used diff

pub record DiffSound : Type 0 where
  -- each app of either manifest is reported: by rows, as the same, or as not compared
  pub report : (both : OpenedBoth) (from_day : ℕ) (used : List CellBound) (diffs : List AppDiff)
      → AreAppDiffs both from_day used None diffs → (appid : List ℕ) → have_app both appid ≡ true
      → IsReported both from_day used diffs appid
  pub rows : (x : Scope) (old new : Option JudgedApp) (space : Space) (rows : List DiffRow)
      (has : HasRows x old new space rows) → RowsAreSo x old new space rows has
  pub same : (old new : Option JudgedApp) → IsSame old new → (a : Attributes) (g : State)
      → IsAlike old new a g
