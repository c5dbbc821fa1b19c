-- Passes of threads, which are ghost tokens: each made the events of runs, one run after the other,
-- or only read. So their history is one of these runs, and one world runs them all.
use Rattle.std.specs.Prelude.{◌≡◌, ◌≢◌, ℕ, suc, ◌-◌, nat_lt, if◌then◌else◌}
use Rattle.std.specs.Prelude.{List, [], ◌∷◌, All, length, map, get_or, flat_map}
use Rattle.cells.specs.declared.event.CellEvent.{CellEvent}
use Rattle.cells.specs.declared.event.CellOp.TheVariants.{Load}
use Rattle.ruleset.specs.Rules.{Rules, IsRuleset}
use Rattle.shared_cells.specs.History.{Entry, events_by}
use Rattle.shared_cells.specs.Loads.{without_loads}
use Rattle.shared_cells.specs.Passes.{PassView, lists_of, AreLeftBy}
use Rattle.thread_laws.specs.Entries.{entry_by}
use Rattle.thread_laws.specs.InTurn.{events_in_turn}
use Rattle.thread_laws.specs.OneWorld.{IsSharedBy, HasOneWorld}
use Rattle.thread_laws.specs.Runs.{AppRun, IsRunUnder, lists_of_runs}

-- ---- a pass that only read

abbrev pub AreLoads : List CellEvent → Type 0
AreLoads = All (λ e. e.op ≡ Load)

-- nothing is left of such a pass in the history without its Loads
abbrev pub NothingIsLeft : Type 0
NothingIsLeft = (p : ℕ) (history : List Entry) → AreLoads (events_by p history)
    → events_by p (without_loads p history) ≡ []

-- ---- passes that did runs

-- the runs of all passes, one pass after the other
abbrev pub all_runs : List (List AppRun) → List AppRun
all_runs = flat_map (λ runs. runs)

-- the pass that did the run of this number, counted over all
abbrev pub pass_of_run : {A : Type 0} → List (List A) → ℕ → ℕ
pass_of_run [] k = 0
pass_of_run (runs ∷ passes) k =
    if nat_lt k (length runs) then 0 else suc (pass_of_run passes (k - length runs))

-- a history of runs as a history of passes: each run's number becomes that of its pass
abbrev pub by_passes : {A : Type 0} → List (List A) → List Entry → List Entry
by_passes runs history = map (λ x. entry_by (pass_of_run runs x.pass) x.event) history

-- the events of each pass are those of its runs, one run after the other
abbrev pub AreDoneInTurn : List Entry → List (List AppRun) → Type 0
AreDoneInTurn history runs = (p : ℕ) → events_by p history ≡ events_in_turn (get_or runs p [])

-- each event of the history belongs to a run, which is one of the event's pass
pub record IsOfRuns (history : List Entry) (runs : List (List AppRun)) : Type 0 where
  pub by_runs : List Entry
  pub same : by_passes runs by_runs ≡ history
  pub own : (k : ℕ) → events_by k by_runs ≡ get_or (lists_of_runs (all_runs runs)) k []

-- a history of passes is one of their runs
abbrev pub PassesAreRuns : Type 0
PassesAreRuns = (history : List Entry) (runs : List (List AppRun))
    → AreDoneInTurn history runs → IsOfRuns history runs

-- ---- one world for all passes

-- what each pass did: the pass `looker`, if it exists, only read, and each other one did its runs,
-- one after the other. Passes are numbered by their places in the list
pub record DidRuns (lists : List (List CellEvent)) (looker : ℕ)
    (runs : List (List AppRun)) : Type 0 where
  pub as_many : length runs ≡ length lists
  pub looked : AreLoads (get_or lists looker [])
  pub no_runs : get_or runs looker [] ≡ []
  pub others : (p : ℕ) → p ≢ looker
      → get_or lists p [] ≡ events_in_turn (get_or runs p [])

-- The passes did these runs under the published list, and one world runs them all, from counters
-- with these opening values. Its history is this one of the passes, without the Loads of the one
-- that only read, and it leaves the counters these last values
pub record DidOneWorld (published : List Rules) (passes : List PassView) (looker : ℕ)
    (opening : List ℕ) (history : List Entry) (values : List ℕ)
    (runs : List (List AppRun)) : Type 0 where
  pub did : DidRuns (lists_of passes) looker runs
  pub each : All (IsRunUnder published) (all_runs runs)
  pub by_runs : List Entry
  pub same : by_passes runs by_runs ≡ without_loads looker history
  pub shared : IsSharedBy (all_runs runs) opening by_runs values
  pub first : Rules
  pub later : List Rules
  pub published_are : published ≡ first ∷ later
  pub world : HasOneWorld first later (all_runs runs) opening by_runs values

-- this is true of all passes if one only read and each other one did runs, done or not
abbrev pub PassesAreOneWorld : Type 0
PassesAreOneWorld = (first : Rules) (later : List Rules) (passes : List PassView) (looker : ℕ)
    (opening values : List ℕ) (left : AreLeftBy opening passes values)
    (runs : List (List AppRun))
    → All IsRuleset (first ∷ later) → DidRuns (lists_of passes) looker runs
    → All (IsRunUnder (first ∷ later)) (all_runs runs)
    → DidOneWorld (first ∷ later) passes looker opening left.history values runs
