-- All workers that share a legal history: event after event, and then each to its end.
use Rattle.std.proofs.Common.{◌≡◌, ℕ, zero, suc, ◌<◌, List, [], ◌∷◌, ◌++◌, length, get_or}
use Rattle.std.proofs.Common.{refl, sym, subst, ◌∙◌, inl, inr, arith, append_assoc}
use Rattle.std.proofs.Common.{length-set, get_or-set_same, get_or-set_other}
use Rattle.std.specs.Prelude.{slice_set}
use Rattle.std.proofs.lemmas.Bool.{cases_eq, cases_lt}
use Rattle.std.proofs.lemmas.List.{set_at, get_or_past}
use Rattle.std.proofs.lemmas.Option.{slice_get-get_or}
use Rattle.cells.specs.declared.event.CellEvent.{CellEvent}
use Rattle.cells.specs.Events.{IsEvent}
use Rattle.cells.specs.Grown.{GrewBy}
use Rattle.ruleset.specs.Rules.{Rules}
use Rattle.shared_cells.specs.History.{Entry, all_events, events_by}
use Rattle.world.specs.World.{Worker, Idle}
use Rattle.thread_laws.proofs.Lists.{got_at, own_first, others_first}
use Rattle.thread_laws.proofs.Works.{Works, idle_touches}
use Rattle.thread_laws.proofs.Steps.{world_of, GoesBy, goes_nowhere, settles, reaches}

-- each worker continues to its end, and no counter is touched
all_settle : (rs : List Rules) (cells : List ℕ) (before ws ts : List Worker)
    → length ws ≡ length ts → ((k : ℕ) → Works (get_or ws k Idle) [] (get_or ts k Idle))
    → GoesBy (world_of rs cells (before ++ ws)) [] (world_of rs cells (before ++ ts))
all_settle rs cells before [] [] many works =
    goes_nowhere (world_of rs cells (before ++ [])) (world_of rs cells (before ++ [])) refl
all_settle rs cells before [] (y ∷ ts) many works = absurd (omega (arith, many))
all_settle rs cells before (x ∷ ws) [] many works = absurd (omega (arith, many))
all_settle rs cells before (x ∷ ws) (y ∷ ts) many works =
    let v = world_of rs cells (before ++ y ∷ ts) in
    let rest = all_settle rs cells (before ++ y ∷ []) ws ts (omega (arith, many))
    (λ k. works (suc k)) in
    let moved = subst (λ (l : List Worker).
    GoesBy (world_of rs cells ((before ++ y ∷ []) ++ ws)) [] (world_of rs cells l))
    (append_assoc before (y ∷ []) ts) rest in
    let here = subst (λ (l : List Worker). GoesBy (world_of rs cells l) [] v)
    (append_assoc before (y ∷ []) ws) moved in
    settles rs v (length before) [] cells (before ++ x ∷ ws) x y [] refl (got_at before x ws)
    (works zero)
    (subst (λ (l : List Worker). GoesBy (world_of rs cells l) [] v)
    (sym (set_at before x ws y (length before) refl)) here)

-- a worker that is to touch a counter exists
within : (ws : List Worker) (k : ℕ) (y : Worker) (es : List CellEvent) (e : CellEvent)
    (next : List CellEvent) → es ≡ e ∷ next → Works (get_or ws k Idle) es y → k < length ws
within ws k y es e next long works = elim (cases_lt k (length ws)) [
  | inl less ↦ less
  | inr past ↦ absurd
      (idle_touches (get_or ws k Idle) y es e next (get_or_past ws k Idle past) long works)
]

-- one worker has touched a counter, and the rest of each worker's work
others_work : (ws ts : List Worker) (x : Entry) (history : List Entry) (m : Worker)
    → x.pass < length ws
    → ((k : ℕ) → Works (get_or ws k Idle) (events_by k (x ∷ history)) (get_or ts k Idle))
    → Works m (events_by x.pass history) (get_or ts x.pass Idle) → (k : ℕ)
    → Works (get_or (slice_set ws x.pass m) k Idle) (events_by k history) (get_or ts k Idle)
others_work ws ts x history m less works own k =
    let Left : ℕ → Type 0 = λ (j : ℕ).
    Works (get_or (slice_set ws x.pass m) j Idle) (events_by j history) (get_or ts j Idle) in
    let here : Left x.pass =
    subst (λ (y : Worker). Works y (events_by x.pass history) (get_or ts x.pass Idle))
    (sym (get_or-set_same ws x.pass m Idle less)) own in
    elim (cases_eq k x.pass) [
      | inl same ↦ subst Left (sym same) here
      | inr other ↦
          subst (λ (y : Worker). Works y (events_by k history) (get_or ts k Idle))
          (sym (get_or-set_other ws x.pass k m Idle other))
          (subst (λ (es : List CellEvent). Works (get_or ws k Idle) es (get_or ts k Idle))
          (others_first k x history other) (works k))
    ]

pub played : (rs : List Rules) (values : List ℕ) (ts : List Worker) (history : List Entry)
    (cells : List ℕ) (ws : List Worker) → length ws ≡ length ts
    → GrewBy IsEvent cells (all_events history) values
    → ((k : ℕ) → Works (get_or ws k Idle) (events_by k history) (get_or ts k Idle))
    → GoesBy (world_of rs cells ws) history (world_of rs values ts)
played rs values ts [] cells ws many grown works =
    subst (λ (c : List ℕ). GoesBy (world_of rs cells ws) [] (world_of rs c ts)) (sym grown)
    (all_settle rs cells [] ws ts many works)
played rs values ts (x ∷ history) cells ws many grown works =
    let k = x.pass in
    let next = events_by k history in
    let first = own_first x history in
    let less = within ws k (get_or ts k Idle) (events_by k (x ∷ history)) x.event next first
    (works k) in
    reaches rs (world_of rs values ts) k history cells grown.0 ws (get_or ws k Idle)
    (get_or ts k Idle) (events_by k (x ∷ history)) x.event next grown.1 first
    (slice_get-get_or ws k Idle less) (works k)
    (λ m rest.
    played rs values ts history grown.0 (slice_set ws k m) (length-set ws k m ∙ many) grown.2
    (others_work ws ts x history m less works rest))
