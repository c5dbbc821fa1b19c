-- A worker's own run in a run of the world, one event longer at its start.
use Rattle.std.proofs.Common.{◌≡◌, ◌≢◌, ℕ, ◌+◌, List, [], ◌∷◌, ◌++◌, Option, Some, None, Bool, true}
use Rattle.std.proofs.Common.{false, refl, sym, ap, subst, ◌∙◌, arith}
use Rattle.std.specs.Prelude.{slice_get, ◌==◌, if◌then◌else◌}
use Rattle.bpf_semantics.specs.Program.{ShapedProgram}
use Rattle.bpf_semantics.specs.State.{State}
use Rattle.bpf_semantics.specs.Outcome.{Going, Done}
use Rattle.bpf_semantics.specs.Step.{step}
use Rattle.bpf_semantics.specs.Run.{Ends}
use Rattle.cells.specs.declared.event.CellEvent.{CellEvent}
use Rattle.cells.specs.Events.{AreCells}
use Rattle.world.specs.World.{WorldState, Worker, Idle, Running, Ended, IsWorker, IsRunning}
use Rattle.world.specs.Counters.{accesses, answered}
use Rattle.world.specs.Happens.{Answer, Happens, Plays}
use Rattle.world.specs.History.{accesses_of, made_at, made_by, EndsDuring}
use Rattle.world.specs.declared.event.Event.{Event}
use Rattle.world.specs.declared.event.Event.TheVariants.{Start, Step, Finish, Swap}
use Rattle.world.proofs.Runs.{Laws, AllFit, all_fit, accesses_fit, goes_from, ends_from}
use Rattle.world.proofs.Safe.{AllSafe, happens_safe}
use Rattle.world.proofs.Workers.{IsOf}

-- ---- what an event does to the counters for a worker

if_false : (b : Bool) (xs : List CellEvent) → b ≡ false → (if b then xs else []) ≡ []
if_false true xs is = absurd cc
if_false false xs is = refl

if_true : (b : Bool) (xs : List CellEvent) → b ≡ true → (if b then xs else []) ≡ xs
if_true true xs is = refl
if_true false xs is = absurd cc

other_test : (j k : ℕ) → j ≢ k → (j == k) ≡ false
other_test j k other = grind arith

own_test : (k : ℕ) → (k == k) ≡ true
own_test k = grind arith

-- nothing, if the event is of another worker
pub made_by_other : (k : ℕ) (w : WorldState) (e : Event) → ¬ IsOf k e → made_at k w e ≡ []
made_by_other k w (Step j) other =
    if_false (j == k) (accesses_of w.cells (slice_get w.workers k)) (other_test j k other)
made_by_other k w (Start j attrs) other = refl
made_by_other k w (Finish j) other = refl
made_by_other k w (Swap rules) other = refl

made_by_own : (k : ℕ) (w : WorldState) (x : Worker) → IsWorker w k x
    → made_at k w (Step k) ≡ accesses_of w.cells (Some x)
made_by_own k w x is =
    if_true (k == k) (accesses_of w.cells (slice_get w.workers k)) (own_test k)
    ∙ ap (accesses_of w.cells) is

-- nothing, if its worker doesn't run
idle_asks : (cells : List ℕ) (x : Worker) → ¬ IsRunning x → accesses_of cells (Some x) ≡ []
idle_asks cells Idle idle = refl
idle_asks cells (Running number program s) idle = absurd (idle tt)
idle_asks cells (Ended number program a choice instructions) idle = refl

pub made_idle : (k : ℕ) (w : WorldState) (x : Worker) → IsWorker w k x → ¬ IsRunning x
    → made_at k w (Step k) ≡ []
made_idle k w x is idle = made_by_own k w x is ∙ idle_asks w.cells x idle

-- ---- one event more

pub later_end : (w u : WorldState) (k : ℕ) (e : Event) (r : Answer) (es : List Event)
    (rs : List Answer)
    (p : ShapedProgram) (s : State) (choice count : ℕ) → Happens w e r u → made_at k w e ≡ []
    → EndsDuring u k es rs p s choice count → EndsDuring w k (e ∷ es) (r ∷ rs) p s choice count
later_end w u k e r es rs p s choice count happens none during = record {
  world = during.world;
  plays = (u, happens, during.plays);
  ends =
      subst (λ (xs : List CellEvent). Ends p s (xs ++ made_by k u during.world es rs during.plays)
      choice count)
      (sym none) during.ends;
}

-- a Step of the worker by which its run continues
pub goes_during : (w u : WorldState) (k number : ℕ) (r : Answer) (es : List Event)
    (rs : List Answer)
    (p : ShapedProgram) (s t : State) (choice count : ℕ) → Happens w (Step k) r u
    → IsWorker w k (Running number p s) → answered w.cells (step p s) ≡ Going t
    → EndsDuring u k es rs p t choice count → EndsDuring w k (Step k ∷ es) (r ∷ rs) p s choice count
goes_during w u k number r es rs p s t choice count happens is going during = record {
  world = during.world;
  plays = (u, happens, during.plays);
  ends =
      let rest = made_by k u during.world es rs during.plays in
      subst (λ (xs : List CellEvent). Ends p s (xs ++ rest) choice count)
      (sym (made_by_own k w (Running number p s) is))
      (goes_from w.cells p s t (step p s) rest choice count refl going during.ends);
}

-- ---- a worker that makes no more counter events

pub record RestsDuring (w : WorldState) (k : ℕ) (es : List Event) (rs : List Answer) : Type 0 where
  pub world : WorldState
  pub plays : Plays w es rs world
  pub none : made_by k w world es rs plays ≡ []

both_none : (xs ys : List CellEvent) → xs ≡ [] → ys ≡ [] → xs ++ ys ≡ []
both_none xs ys left right = ap (λ (zs : List CellEvent). zs ++ ys) left ∙ right

pub rests_now : (w : WorldState) (k : ℕ) → RestsDuring w k [] []
rests_now w k = record { world = w; plays = refl; none = refl }

pub later_rest : (w u : WorldState) (k : ℕ) (e : Event) (r : Answer) (es : List Event)
    (rs : List Answer)
    → Happens w e r u → made_at k w e ≡ [] → RestsDuring u k es rs → RestsDuring w k (e ∷ es)
    (r ∷ rs)
later_rest w u k e r es rs happens none rest = record {
  world = rest.world;
  plays = (u, happens, rest.plays);
  none = both_none (made_at k w e) (made_by k u rest.world es rs rest.plays) none rest.none;
}

end_and_none : (p : ShapedProgram) (s : State) (xs ys : List CellEvent) (choice count : ℕ) → ys ≡ []
    → Ends p s xs choice count → Ends p s (xs ++ ys) choice count
end_and_none p s xs ys choice count none ends =
    subst (λ (zs : List CellEvent). Ends p s zs choice count) (sym (nothing_more xs ys none)) ends
  where
    nothing_more : (xs ys : List CellEvent) → ys ≡ [] → xs ++ ys ≡ xs
    nothing_more [] ys none = none
    nothing_more (x ∷ xs) ys none = ap (λ (zs : List CellEvent). x ∷ zs) (nothing_more xs ys none)

-- a Step of the worker by which its run ends
pub ends_during : (w u : WorldState) (k number : ℕ) (r : Answer) (es : List Event)
    (rs : List Answer)
    (p : ShapedProgram) (s : State) (choice : ℕ) → Happens w (Step k) r u
    → IsWorker w k (Running number p s) → step p s ≡ Done choice → RestsDuring u k es rs
    → EndsDuring w k (Step k ∷ es) (r ∷ rs) p s choice (s.count + 1)
ends_during w u k number r es rs p s choice happens is done rest = record {
  world = rest.world;
  plays = (u, happens, rest.plays);
  ends =
      let more = made_by k u rest.world es rs rest.plays in
      subst (λ (xs : List CellEvent). Ends p s (xs ++ more) choice (s.count + 1))
      (sym (made_by_own k w (Running number p s) is))
      (end_and_none p s (accesses w.cells (step p s)) more choice (s.count + 1) rest.none
      (ends_from w.cells p s (step p s) choice refl done));
}

-- ---- replies that fit

accesses_of_fit : Laws → (cells : List ℕ) (o : Option Worker) → AreCells cells → AllFit
    (accesses_of cells o)
accesses_of_fit law cells None fit = tt
accesses_of_fit law cells (Some Idle) fit = tt
accesses_of_fit law cells (Some (Running number program s)) fit =
    accesses_fit law cells (step program s) fit
accesses_of_fit law cells (Some (Ended number program a choice instructions)) fit = tt

if_fit : (b : Bool) (xs : List CellEvent) → AllFit xs → AllFit (if b then xs else [])
if_fit true xs fit = fit
if_fit false xs fit = tt

made_at_fit : Laws → (k : ℕ) (w : WorldState) (e : Event) → AreCells w.cells → AllFit
    (made_at k w e)
made_at_fit law k w (Step j) fit =
    if_fit (j == k) (accesses_of w.cells (slice_get w.workers k))
    (accesses_of_fit law w.cells (slice_get w.workers k) fit)
made_at_fit law k w (Start j attrs) fit = tt
made_at_fit law k w (Finish j) fit = tt
made_at_fit law k w (Swap rules) fit = tt

pub made_fit : Laws → (k : ℕ) (w v : WorldState) (es : List Event) (rs : List Answer)
    (plays : Plays w es rs v) → AllSafe w → AllFit (made_by k w v es rs plays)
made_fit law k w v [] [] plays safe = tt
made_fit law k w v (e ∷ es) (r ∷ rs) plays safe =
    all_fit (made_at k w e) (made_by k plays.0 v es rs plays.2) (made_at_fit law k w e safe.cells)
    (made_fit law k plays.0 v es rs plays.2 (happens_safe law w plays.0 e r safe plays.1))
made_fit law k w v [] (r ∷ rs) plays safe = tt
made_fit law k w v (e ∷ es) [] plays safe = tt
