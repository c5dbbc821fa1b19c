-- The result of comparing an app in two manifests, and whether a machine may lose a release.
use Rattle.std.specs.Prelude.{◌≡◌, List, [], Option, Some, None, is_none}
use Rattle.std.specs.Prelude.{Bool, true, false, ◌||◌, if◌then◌else◌}
use Rattle.cells.specs.declared.array.CellArray.{CellArray}
use Rattle.load.specs.declared.judged.JudgedApp.{JudgedApp}
use Rattle.diff_rules.specs.Rows.{IsDiff, DiffRow}
use Rattle.diff_space.specs.Machines.{Side}
use Rattle.diff_space.specs.Scopes.{Scope}
use Rattle.diff_space.specs.Spaces.{Space}
use Rattle.diff_text.specs.Shown.{AreShown, RowSources, some_shown_lost}
use Rattle.diff_text.specs.declared.shown.AppRows.{AppRows}
use Rattle.diff_manifests.specs.Apps.{IsSameApp, contents_in, releases_in}
use Rattle.diff_manifests.specs.Sides.{IsSideBy}
use Rattle.diff_manifests.specs.declared.outcome.AppChange.{AppChange}
use Rattle.diff_manifests.specs.declared.outcome.AppChange.TheVariants.{Kept, New, Gone}
use Rattle.diff_manifests.specs.declared.outcome.AppOutcome.{AppOutcome}
use Rattle.diff_manifests.specs.declared.outcome.AppOutcome.TheVariants.{Same, Rows, NotCompared}
use Rattle.diff_manifests.specs.declared.outcome.WhyNot.{WhyNot}
use Rattle.diff_manifests.specs.declared.outcome.WhyNot.TheVariants.{Program, Size}

-- which of the manifests have the app
abbrev pub change_of : (old new : Option JudgedApp) → AppChange
change_of None new = New
change_of (Some app) None = Gone
change_of (Some app) (Some other) = Kept

-- ---- rows

-- no program decides, and these are the rows of the two sides
pub record HasRows (x : Scope) (old new : Option JudgedApp) (space : Space) (rows : List DiffRow)
    : Type 0 where
  pub old_side : Side
  pub new_side : Side
  pub old_is : IsSideBy (releases_in old new) old old_side
  pub new_is : IsSideBy (releases_in old new) new new_side
  pub is_diff : IsDiff x old_side new_side space rows

-- ---- outcomes

-- the arrays of an app's manifest
abbrev pub arrays_or_none : Option JudgedApp → List CellArray
arrays_or_none (Some app) = app.program.shape.arrays
arrays_or_none None = []

-- what an app's rows are shown with: releases, contents and arrays
abbrev pub sources_of : (old new : Option JudgedApp) → RowSources
sources_of old new = record {
  all = releases_in old new;
  old_contents = contents_in (releases_in old new) old;
  new_contents = contents_in (releases_in old new) new;
  old_arrays = arrays_or_none old;
  new_arrays = arrays_or_none new;
}

-- all rows of the app are shown, and nothing else
pub record ShowsRows (x : Scope) (old new : Option JudgedApp) (shown : AppRows) : Type 0 where
  pub space : Space
  pub rows : List DiffRow
  pub has_rows : HasRows x old new space rows
  pub are_shown : AreShown x space.dimensions (sources_of old new) rows shown.rows.items

abbrev pub IsSame : (old new : Option JudgedApp) → Type 0
IsSame (Some old) (Some new) = IsSameApp old new
IsSame old new = ⊥

abbrev pub is_program : Option JudgedApp → Bool
is_program (Some app) = is_none app.rule
is_program None = false

-- a program decides in one of the manifests; otherwise the line says that the rules are too large
abbrev pub why_not : (old new : Option JudgedApp) → WhyNot
why_not old new = if is_program old || is_program new then Program else Size

-- which apps aren't compared is open
abbrev pub IsOutcome : Scope → (old new : Option JudgedApp) → AppOutcome → Type 0
IsOutcome x old new Same = IsSame old new
IsOutcome x old new (Rows shown) = ShowsRows x old new shown
IsOutcome x old new (NotCompared why) = why ≡ why_not old new

-- ---- what is lost

-- a row is lost, or the app isn't compared
abbrev pub outcome_loses : AppOutcome → Bool
outcome_loses Same = false
outcome_loses (Rows shown) = some_shown_lost shown.rows.items
outcome_loses (NotCompared why) = true

-- OLD offers nothing for a new app, so nothing is lost. For an app that is gone, the reply says
-- that it is unknown
abbrev pub app_loses : AppChange → AppOutcome → Bool
app_loses New outcome = false
app_loses Gone outcome = true
app_loses Kept outcome = outcome_loses outcome
