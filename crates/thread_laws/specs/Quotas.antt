-- Quotas of threads: which programs a ruleset may have, so that threads only count on the cell of a
-- quota; and what is granted of each array that has a quota.
use Rattle.std.specs.Prelude.{◌≡◌, ℕ, ◌+◌, ◌<◌, ◌^◌, List, All, Contains, slice_index, IsSome}
use Rattle.attrs.specs.Attributes.{Attributes, AreShort}
use Rattle.cells.specs.Arrays.{HasCell}
use Rattle.cells.specs.Directory.{IsDirectory}
use Rattle.cells.specs.declared.array.CellArray.{CellArray}
use Rattle.cells.specs.declared.event.CellEvent.{CellEvent}
use Rattle.shared_cells.specs.History.{Entry}
use Rattle.shared_cells.specs.Passes.{PassView, events_made}
use Rattle.shared_cells.specs.Quotas.{CountsExactly, OnlyCounts, QuotasAreExact, add_count}
use Rattle.bpf_semantics.specs.Program.{ShapedProgram}
use Rattle.bpf_semantics.specs.State.{opening}
use Rattle.bpf_verify.specs.Covers.{IsCovered, StepsAreSafe}
use Rattle.ruleset.specs.Rules.{Rules, IsRuleset, KnowsOnly}
use Rattle.thread_laws.specs.Passes.{DidOneWorld}
use Rattle.thread_laws.specs.Runs.{AppRun}

-- ---- one cell

-- the program has what `Verified` keeps of an accepted one, and each of its arrays that has the
-- cell has a quota
pub record HasOnlyQuotasAt (cell : ℕ) (program : ShapedProgram) : Type 0 where
  pub opens : (a : Attributes) → AreShort a.texts → IsCovered program (opening a)
  pub sound : StepsAreSafe program
  pub quota : (a : CellArray) → Contains program.shape.arrays a → HasCell a cell → IsSome a.quota

-- the same for each program of the rulesets
abbrev pub AllHaveOnlyQuotasAt : ℕ → List Rules → Type 0
AllHaveOnlyQuotasAt cell published =
    All (λ rules. All (λ app. HasOnlyQuotasAt cell app.program) rules.apps) published

-- the event is on another cell, or is a load or an addition of 1
abbrev pub OnlyCountsAt : ℕ → CellEvent → Type 0
OnlyCountsAt cell e = e.cell ≡ cell → OnlyCounts e.op

-- Take passes of which one only read, and all others did runs under these rulesets, which one world
-- does. If no program of the rulesets has the cell in an array without a quota, the only operations
-- on the cell were loads and additions of 1.
abbrev pub ThreadsKeepQuotas : Type 0
ThreadsKeepQuotas =
    (published : List Rules) (passes : List PassView) (looker : ℕ) (opening : List ℕ)
    (history : List Entry) (values : List ℕ) (runs : List (List AppRun)) (cell : ℕ)
    → DidOneWorld published passes looker opening history values runs
    → AllHaveOnlyQuotasAt cell published
    → All (OnlyCountsAt cell) (events_made passes)

-- ---- all cells of arrays with quotas

-- The only operations on the cell were loads and additions of 1. If it didn't overflow, its last
-- value is the opening one and the number of these additions. Of them
-- min(quota, opening + additions) less min(quota, opening) found a value below a quota: from 0 on
-- min(quota, additions)
pub record IsGranted (cell opening value : ℕ) (made : List CellEvent) : Type 0 where
  pub only : All (OnlyCountsAt cell) made
  pub exact : opening + add_count cell made < 2 ^ 64 → CountsExactly cell opening value made

-- the same for each cell of each of these arrays that has a quota
abbrev pub QuotasAreGranted : List CellArray → List ℕ → List PassView → List ℕ → Type 0
QuotasAreGranted arrays opening passes values = (array : CellArray) (cell : ℕ)
    → Contains arrays array → IsSome array.quota → HasCell array cell
    → IsGranted cell (slice_index opening cell) (slice_index values cell) (events_made passes)

-- If all rulesets know only the arrays of one directory, and the passes are as above, each quota of
-- the directory is granted
abbrev pub ThreadsGrantQuotas : Type 0
ThreadsGrantQuotas =
    (published : List Rules) (passes : List PassView) (looker : ℕ) (opening : List ℕ)
    (history : List Entry) (values : List ℕ) (runs : List (List AppRun)) (arrays : List CellArray)
    → DidOneWorld published passes looker opening history values runs
    → QuotasAreExact opening passes values
    → All IsRuleset published → All (KnowsOnly arrays) published → IsDirectory arrays
    → QuotasAreGranted arrays opening passes values
