-- What the passes did to a cell that no program of the rulesets has in an array without a quota.
use Rattle.std.proofs.Common.{◌≡◌, ℕ, zero, suc, List, [], ◌∷◌, get_or, inl, inr}
use Rattle.std.proofs.Common.{sym, subst}
use Rattle.std.specs.Prelude.{All, slice_get, Some}
use Rattle.std.proofs.lemmas.Bool.{cases_eq}
use Rattle.std.proofs.lemmas.List.Elements.{All-nil, All-cons, All-append, All-head, All-tail}
use Rattle.std.proofs.lemmas.List.Elements.{All-contains}
use Rattle.std.proofs.lemmas.Option.{slice_get_within, get_or_from_slice_get}
use Rattle.cells.specs.Events.{AreCells, IsEvent}
use Rattle.cells.specs.Grown.{GrewBy}
use Rattle.cells.specs.Widths.{EventsFit}
use Rattle.cells.specs.declared.event.CellEvent.{CellEvent}
use Rattle.shared_cells.specs.History.{Entry, all_events}
use Rattle.shared_cells.specs.Passes.{lists_of}
use Rattle.shared_cells.specs.Quotas.{OnlyCounts}
use Rattle.world.specs.World.{HasProgram}
use Rattle.bpf_semantics.specs.Program.{ShapedProgram}
use Rattle.bpf_verify.specs.Covers.{HasPossibleReply}
use Rattle.ruleset.specs.Rules.{AppRule, Rules}
use Rattle.thread_laws.specs.InTurn.{events_in_turn}
use Rattle.thread_laws.specs.OneWorld.{IsSharedBy}
use Rattle.thread_laws.specs.Passes.{DidRuns, all_runs}
use Rattle.thread_laws.specs.Runs.{AppRun, IsRunUnder, lists_of_runs}
use Rattle.thread_laws.specs.Quotas.{HasOnlyQuotasAt, AllHaveOnlyQuotasAt, OnlyCountsAt}
use Rattle.thread_laws.specs.Quotas.{ThreadsKeepQuotas}
use Rattle.thread_laws.proofs.QuotaLists.{all_of_list, all_by, all_made}
use Rattle.thread_laws.proofs.QuotaRuns.{run_counts}

-- ---- replies along a legal history fit

fit_along : EventsFit → (old : List ℕ) (made : List CellEvent) (new : List ℕ) → AreCells old
    → GrewBy IsEvent old made new → All HasPossibleReply made
fit_along law old [] new cells grown = All-nil HasPossibleReply
fit_along law old (e ∷ es) new cells grown =
    let here = law old grown.0 e cells grown.1 in
    All-cons HasPossibleReply e es here.reply (fit_along law grown.0 es new here.cells grown.2)

-- and so do those of each run that shares it
fit_shared : EventsFit → (runs : List AppRun) (opening : List ℕ) (history : List Entry)
    (values : List ℕ) → IsSharedBy runs opening history values → (k : ℕ)
    → All HasPossibleReply (get_or (lists_of_runs runs) k [])
fit_shared law runs opening history values shared k =
    let legal = shared.legal in
    let fit = fit_along law opening (all_events history) values legal.cells legal.grown in
    subst (All HasPossibleReply) (shared.own k) (all_by HasPossibleReply k history fit)

-- ---- what runs did

-- the program of a run is one of its ruleset
program_of : (cell : ℕ) (published : List Rules) (number : ℕ) (appid : List ℕ)
    (program : ShapedProgram) → AllHaveOnlyQuotasAt cell published
    → HasProgram published number appid program → HasOnlyQuotasAt cell program
program_of cell published zero appid program all offered = absurd cc
program_of cell published (suc k) appid program all offered =
    let rules = offered.has.rules in
    let is : slice_get published k ≡ Some rules = offered.has.ruleset_is in
    let Has : AppRule → Type 0 = λ app. HasOnlyQuotasAt cell app.program in
    let apps : All Has rules.apps =
    subst (λ (r : Rules). All Has r.apps) (get_or_from_slice_get published k rules rules is)
    (all k rules (slice_get_within published k rules is)) in
    subst (HasOnlyQuotasAt cell) offered.program_is
    (All-contains Has rules.apps offered.app apps offered.has.known.listed)

module _ (cell : ℕ) (published : List Rules) (all : AllHaveOnlyQuotasAt cell published) where
  RunCounts : AppRun → Type 0
  RunCounts run = All (OnlyCountsAt cell) run.events

  runs_count : (runs : List AppRun) → All (IsRunUnder published) runs
      → ((k : ℕ) → All HasPossibleReply (get_or (lists_of_runs runs) k [])) → All RunCounts runs
  unfolding RunCounts
  runs_count [] each fit = All-nil RunCounts
  runs_count (run ∷ runs) each fit =
      let here = All-head (IsRunUnder published) run runs each in
      let has = program_of cell published run.number _ run.program all here.offered in
      All-cons RunCounts run runs
      (run_counts cell run has here.texts_are_short here.comes (fit zero))
      (runs_count runs (All-tail (IsRunUnder published) run runs each) (λ k. fit (suc k)))

  turn_counts : (runs : List AppRun) → All RunCounts runs
      → All (OnlyCountsAt cell) (events_in_turn runs)
  unfolding RunCounts
  turn_counts [] each = All-nil (OnlyCountsAt cell)
  turn_counts (run ∷ runs) each =
      All-append (OnlyCountsAt cell) run.events (events_in_turn runs)
      (All-head RunCounts run runs each) (turn_counts runs (All-tail RunCounts run runs each))

  pass_counts : (lists : List (List CellEvent)) (looker : ℕ) (runs : List (List AppRun))
      → DidRuns lists looker runs → All RunCounts (all_runs runs) → (p : ℕ)
      → All (OnlyCountsAt cell) (get_or lists p [])
  pass_counts lists looker runs did each p = elim (cases_eq p looker) [
    | inl same ↦
        subst (λ (q : ℕ). All (OnlyCountsAt cell) (get_or lists q [])) (sym same)
        (λ k d lt here. subst OnlyCounts (sym (did.looked k d lt)) tt)
    | inr other ↦
        subst (All (OnlyCountsAt cell)) (sym (did.others p other))
        (turn_counts (get_or runs p []) (all_of_list RunCounts runs p each))
  ]

-- ---- the law

pub quotas_are_kept : EventsFit → ThreadsKeepQuotas
quotas_are_kept law published passes looker opening history values runs cell world all =
    let each = runs_count cell published all (all_runs runs) world.each
    (fit_shared law (all_runs runs) opening world.by_runs values world.shared) in
    all_made (OnlyCountsAt cell) passes
    (pass_counts cell published all (lists_of passes) looker runs world.did each)
