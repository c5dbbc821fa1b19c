-- What a server leaves after its end: one history of all that its threads did to its counters.
use Rattle.std.specs.Prelude.{◌≡◌, Bool, ℕ, List, [], ◌∷◌, All, Contains, IsSome, map, reverse}
use Rattle.thread_laws.specs.Quotas.{QuotasAreGranted}
use Rattle.shared_cells.specs.Passes.{CellsView, PassView, ClosedView, IsPassOf, AreClosed}
use Rattle.shared_cells.specs.Passes.{AreLeftBy}
use Rattle.shared_cells.specs.Quotas.{QuotasAreExact}
use Rattle.restart_laws.specs.Servers.{CountsOn}
use Rattle.thread_laws.specs.Passes.{DidOneWorld, all_runs}
use Rattle.thread_laws.specs.Runs.{AppRun, IsWholeRun}
use Rattle.cells.specs.Arrays.{HasCell}
use Rattle.cells.specs.Directory.{IsDirectory}
use Rattle.cells.specs.declared.array.CellArray.{CellArray}
use Rattle.cells.specs.declared.event.CellEvent.{CellEvent}
use Rattle.operator.specs.Control.{Controlled, Loading, KnowOnlyItsArrays}
use Rattle.operator.specs.Leading.{AnsweredLine, LinesLead}
use Rattle.hot_swap.specs.Published.{KnownPrefix}
use Rattle.hot_swap.specs.declared.publisher_id.PublisherId.{PublisherId}
use Rattle.ruleset.specs.Rules.{Rules, IsRuleset}
use Rattle.workers.specs.Answers.{WorkerAnswer, AreInTurn}
use Rattle.workers.specs.Runs.{runs_in_turn}

-- What threads did to closed counters, given the runs of each pass. There is one legal history (a
-- linearization) of all passes, from the opening values to the closed ones, which has the events of
-- each pass. The first pass only read counters. Each other pass did its runs, one after the other,
-- under the rulesets. Each run ended in time, with 0 or a release. Without the reads of the first
-- pass, that history is the one of a world that does these runs. On each counter a quota is granted
-- exactly.
pub record AreLeftByOneWorld (published : List Rules) (runs : List (List AppRun))
    (opening : List ℕ) (closed : ClosedView) : Type 0 where
  pub left : AreLeftBy opening closed.passes closed.values
  pub whole : All (IsWholeRun published) (all_runs runs)
  pub world : DidOneWorld published closed.passes 0 opening left.history closed.values runs
  pub counters : QuotasAreExact opening closed.passes closed.values

-- the runs of each pass of a server: none of the operator's pass, which is the first, and for a
-- worker's pass those of the worker's answers
abbrev pub runs_by_pass
    : {withholds : Bool} → List (List (WorkerAnswer withholds)) → List (List AppRun)
runs_by_pass by_worker = [] ∷ map runs_in_turn by_worker

-- What remains of a server that began to serve with these cells and this control: these halted
-- apps and arrays, which are those of its end, and values. The values are those of its own
-- counters, closed with all passes to them.
-- Answered lines of the operator, and nothing else, led from that control to the one at its
-- end. Each worker has answers, one after the other, none under an older ruleset than the one
-- before. Each is under a published ruleset or a refusal, or withheld if that may be. What the
-- worker did to the counters is what the runs of these answers did, and the operator only read
-- counters. The published rulesets are sound and know only the arrays, which are those that the
-- server has at its end. Each quota of these is granted, and counts on if the server began with the
-- counters that earlier ones left.
pub record LeavesOneWorld {F : Type 0} (withholds : Bool) (loads : Loading F) (cells : CellsView)
    (control : Controlled) (halted : List (List ℕ)) (arrays : List CellArray) (values : List ℕ)
    : Type 0 where
  pub closed : ClosedView
  pub own : AreClosed cells closed
  pub values_are : values ≡ closed.values
  pub end : Controlled
  pub arrays_are : arrays ≡ end.arrays
  pub halted_are : halted ≡ end.halted
  pub lines : List (AnsweredLine F)
  pub reads : List CellEvent
  pub led : LinesLead loads control lines reads end
  pub by_worker : List (List (WorkerAnswer withholds))
  pub in_turn :
      All (λ answers. AreInTurn control.publishing.known answers end.publishing.known) by_worker
  pub did :
      AreLeftByOneWorld end.publishing.known.rulesets (runs_by_pass by_worker) cells.opening closed
  pub sound : All IsRuleset end.publishing.known.rulesets
  pub directory : IsDirectory arrays
  pub only : KnowOnlyItsArrays end
  pub granted : QuotasAreGranted arrays cells.opening closed.passes values
  pub counts_on : (array : CellArray) (cell : ℕ) → Contains arrays array → IsSome array.quota
      → HasCell array cell → CountsOn cell closed

-- ---- steps of the proof

-- a worker whose thread has ended: its pass is to these cells, and its watcher is of this publisher
pub record IsOfServer (cells : CellsView) (publisher : PublisherId)
    (worker : PassView × KnownPrefix) : Type 0 where
  pub pass : IsPassOf cells worker.0
  pub watcher : publisher ≡ worker.1.publisher

-- the passes as they are closed: the operator's, then those of the workers from the last to the
-- first
abbrev pub passes_of : PassView → List (PassView × KnownPrefix) → List PassView
passes_of operator workers =
    operator ∷ reverse (map (λ (worker : PassView × KnownPrefix). worker.0) workers)
