-- Passes, which are ghost tokens, that made the events of their runs, put together: one world for
-- all.
use Rattle.std.proofs.Common.{◌≡◌, ℕ, List, [], ◌∷◌, get_or, refl, sym, ap, subst, ◌∙◌}
use Rattle.std.proofs.Common.{inl, inr}
use Rattle.std.proofs.lemmas.Bool.{cases_eq}
use Rattle.cells.specs.declared.event.CellEvent.{CellEvent}
use Rattle.shared_cells.specs.History.{Entry, all_events, events_by, IsLegal}
use Rattle.shared_cells.specs.Loads.{without_loads, LoadsCanGo, OthersAreKept}
use Rattle.shared_cells.specs.Passes.{PassView, lists_of, AreLeftBy}
use Rattle.thread_laws.specs.InTurn.{events_in_turn}
use Rattle.thread_laws.specs.OneWorld.{OneWorld, IsSharedBy}
use Rattle.thread_laws.specs.Passes.{AreLoads, NothingIsLeft, PassesAreRuns, IsOfRuns, all_runs}
use Rattle.thread_laws.specs.Passes.{DidRuns, PassesAreOneWorld, by_passes}
use Rattle.thread_laws.specs.Runs.{AppRun}

-- ---- one history, and one world

pub record Laws : Type 0 where
  pub world : OneWorld
  pub loads : LoadsCanGo
  pub others : OthersAreKept
  pub nothing : NothingIsLeft
  pub passes : PassesAreRuns

-- the history without the Loads of the pass that only read is one of the runs
of_runs : Laws → (passes : List PassView) (looker : ℕ) (runs : List (List AppRun))
    (opening values : List ℕ) (left : AreLeftBy opening passes values)
    → DidRuns (lists_of passes) looker runs
    → IsOfRuns (without_loads looker left.history) runs
of_runs laws passes looker runs opening values left did =
    let history = without_loads looker left.history in
    let P : ℕ → Type 0 = λ (p : ℕ). events_by p history ≡ events_in_turn (get_or runs p []) in
    let loads = subst AreLoads (sym (left.own looker)) did.looked in
    let none : P looker =
    laws.nothing looker left.history loads ∙ sym (ap events_in_turn did.no_runs) in
    let own : (p : ℕ) → P p = λ p. elim (cases_eq p looker) [
      | inl same ↦ subst P (sym same) none
      | inr other ↦
          laws.others looker p left.history (λ same. other (sym same)) ∙ left.own p
          ∙ did.others p other
    ] in
    laws.passes history runs own

-- and has the same events
events_kept : {A : Type 0} (runs : List (List A)) (history : List Entry)
    → all_events (by_passes runs history) ≡ all_events history
events_kept runs [] = refl
events_kept runs (x ∷ history) =
    ap (λ (es : List CellEvent). x.event ∷ es) (events_kept runs history)

pub passes_are_one_world : Laws → PassesAreOneWorld
passes_are_one_world laws first later passes looker opening values left runs sound did each =
    let cut = of_runs laws passes looker runs opening values left did in
    let shared : IsSharedBy (all_runs runs) opening cut.by_runs values = record {
      legal = subst (λ (es : List CellEvent). IsLegal opening es values)
          (sym (ap (λ (h : List Entry). all_events h) cut.same) ∙ events_kept runs cut.by_runs)
          (laws.loads looker left.history opening values left.legal);
      own = cut.own;
    } in
    record {
      did = did;
      each = each;
      by_runs = cut.by_runs;
      same = cut.same;
      shared = shared;
      first = first;
      later = later;
      published_are = refl;
      world = laws.world first later (all_runs runs) opening cut.by_runs values sound each shared;
    }
