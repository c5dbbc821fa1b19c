-- Steps of the world: one at a time, and one worker's steps to its next event or to its end.
use Rattle.std.proofs.Common.{◌≡◌, ℕ, ◌+◌, List, [], ◌∷◌, ◌++◌, map, Option, Some, Ok, refl, sym}
use Rattle.std.proofs.Common.{ap, subst, ◌∙◌, set-set}
use Rattle.std.specs.Prelude.{slice_get, slice_set}
use Rattle.std.specs.List.{AllByRecursion}
use Rattle.bpf_semantics.specs.Outcome.{Outcome, Going, Operates, Done}
use Rattle.bpf_semantics.specs.Program.{ShapedProgram}
use Rattle.bpf_semantics.specs.State.{State}
use Rattle.bpf_semantics.specs.Step.{step}
use Rattle.cells.specs.declared.event.CellEvent.{CellEvent}
use Rattle.cells.specs.Events.{IsEvent}
use Rattle.ruleset.specs.Rules.{Rules}
use Rattle.shared_cells.specs.History.{Entry}
use Rattle.world.specs.Counters.{accesses, answered}
use Rattle.world.specs.Happens.{Answer, Happens, Plays, with_step}
use Rattle.world.specs.History.{accesses_of}
use Rattle.world.specs.World.{WorldState, Worker, Running, Ended}
use Rattle.world.specs.declared.event.Event.{Event}
use Rattle.world.specs.declared.event.Event.TheVariants.{Step}
use Rattle.world.specs.declared.event.Effect.TheVariants as effect
use Rattle.thread_laws.specs.Entries.{entry_by, entries_at, entries_of}
use Rattle.thread_laws.specs.OneWorld.{IsStepEvent}
use Rattle.thread_laws.proofs.Lists.{got_set, set_got}
use Rattle.thread_laws.proofs.Works.{Works, rests, moves, touches, closes}

abbrev pub world_of : List Rules → List ℕ → List Worker → WorldState
world_of rules cells workers = record { rulesets = rules; cells = cells; workers = workers }

-- Steps lead from one world to another, and their events on counters are the history
pub record GoesBy (w : WorldState) (history : List Entry) (v : WorldState) : Type 0 where
  pub events : List Event
  pub answers : List Answer
  pub plays : Plays w events answers v
  pub kinds : AllByRecursion IsStepEvent events
  pub history_is : entries_of w v events answers plays ≡ history

pub goes_nowhere : (w v : WorldState) → v ≡ w → GoesBy w [] v
goes_nowhere w v same = record {
  events = [];
  answers = [];
  plays = same;
  kinds = tt;
  history_is = refl;
}

one_step : (w u v : WorldState) (k : ℕ) (r : Answer) (made history : List Entry)
    → Happens w (Step k) r u → entries_at w (Step k) ≡ made → GoesBy u history v
    → GoesBy w (made ++ history) v
one_step w u v k r made history happens is rest = record {
  events = Step k ∷ rest.events;
  answers = r ∷ rest.answers;
  plays = (u, happens, rest.plays);
  kinds = (tt, rest.kinds);
  history_is =
      ap (λ (xs : List Entry). xs ++ entries_of u v rest.events rest.answers rest.plays) is
      ∙ ap (λ (xs : List Entry). made ++ xs) rest.history_is;
}

-- ---- one step

module _ (rs : List Rules) (v : WorldState) (k : ℕ) where
  abbrev Goes : List ℕ → List Worker → List Entry → Type 0
  Goes cells ws made = GoesBy (world_of rs cells ws) made v

  -- the worker's access to the counters
  asks_so : (cells : List ℕ) (ws : List Worker) (n : ℕ) (p : ShapedProgram) (s : State)
      (o : Outcome) → slice_get ws k ≡ Some (Running n p s) → step p s ≡ o
      → entries_at (world_of rs cells ws) (Step k) ≡ map (entry_by k) (accesses cells o)
  asks_so cells ws n p s o is e =
      ap (λ (x : Option Worker). map (entry_by k) (accesses_of cells x)) is
      ∙ ap (λ (x : Outcome). map (entry_by k) (accesses cells x)) e

  -- a step that touches no counter
  quietly : (history : List Entry) (cells : List ℕ) (ws : List Worker) (n : ℕ)
      (p : ShapedProgram) (s t : State)
      → slice_get ws k ≡ Some (Running n p s) → step p s ≡ Going t
      → Goes cells (slice_set ws k (Running n p t)) history → Goes cells ws history
  quietly history cells ws n p s t is e rest =
      let y : Worker = Running n p t in
      let w = world_of rs cells ws in
      one_step w (world_of rs cells (slice_set ws k y)) v k (Ok effect.Stepped) [] history
      (record {
        number = n;
        program = p;
        from = s;
        to = t;
        running = is;
        goes_on = ap (answered cells) e;
        after = ap (λ (o : Outcome). with_step w k o y) (sym e);
      })
      (asks_so cells ws n p s (Going t) is e) rest

  -- a step by which the run ends
  lastly : (history : List Entry) (cells : List ℕ) (ws : List Worker) (n : ℕ)
      (p : ShapedProgram) (s : State) (choice : ℕ)
      → slice_get ws k ≡ Some (Running n p s) → step p s ≡ Done choice
      → Goes cells (slice_set ws k (Ended n p s.attributes choice (s.count + 1))) history
      → Goes cells ws history
  lastly history cells ws n p s choice is e rest =
      let y : Worker = Ended n p s.attributes choice (s.count + 1) in
      one_step (world_of rs cells ws) (world_of rs cells (slice_set ws k y)) v k
      (Ok (effect.Ended choice)) [] history
      (record {
        number = n;
        program = p;
        from = s;
        running = is;
        ends = e;
        after = refl;
      })
      (asks_so cells ws n p s (Done choice) is e) rest

  -- a step that touches a counter
  touching : (history : List Entry) (cells new : List ℕ) (ws : List Worker) (n : ℕ)
      (p : ShapedProgram) (s : State) (f : ℕ → State) (e : CellEvent)
      → slice_get ws k ≡ Some (Running n p s) → step p s ≡ Operates e.cell e.op f
      → IsEvent cells e new → Goes new (slice_set ws k (Running n p (f e.reply))) history
      → Goes cells ws (entry_by k e ∷ history)
  touching history cells new ws n p s f e is a event rest =
      let y : Worker = Running n p (f e.reply) in
      let w = world_of rs cells ws in
      let replied = sym event.reply_is in
      one_step w (world_of rs new (slice_set ws k y)) v k (Ok effect.Stepped) (entry_by k e ∷ [])
      history
      (record {
        number = n;
        program = p;
        from = s;
        to = f e.reply;
        running = is;
        goes_on = ap (answered cells) a ∙ ap (λ (reply : ℕ). Going (f reply)) replied;
        after =
            ap (λ (values : List ℕ). world_of rs values (slice_set ws k y)) event.values_are
            ∙ ap (λ (o : Outcome). with_step w k o y) (sym a);
      })
      (asks_so cells ws n p s (Operates e.cell e.op f) is a
      ∙ ap (λ (reply : ℕ). entry_by k (record { cell = e.cell; op = e.op; reply = reply }) ∷ [])
      replied) rest

  -- ---- one worker's steps

  -- to its end, without an event
  pub settles : (history : List Entry) (cells : List ℕ) (ws : List Worker) (x y : Worker)
      (es : List CellEvent) → es ≡ [] → slice_get ws k ≡ Some x → Works x es y
      → Goes cells (slice_set ws k y) history → Goes cells ws history
  settles history cells ws x y es none is rests rest =
      subst (λ (l : List Worker). Goes cells l history) (set_got ws k x is) rest
  settles history cells ws x y es none is (moves {n = n} {p = p} {s = s} {t = t} e later) rest =
      let z : Worker = Running n p t in
      quietly history cells ws n p s t is e
      (settles history cells (slice_set ws k z) z y es none
      (got_set ws k (Running n p s) z is) later
      (subst (λ (l : List Worker). Goes cells l history) (sym (set-set ws k z y)) rest))
  settles history cells ws x y es none is (touches e later) rest = absurd cc
  settles history cells ws x y es none is
      (closes {n = n} {p = p} {s = s} {choice = choice} e) rest =
      lastly history cells ws n p s choice is e rest

  -- to its next event, and then whatever the world does
  pub reaches : (history : List Entry) (cells new : List ℕ) (ws : List Worker) (x y : Worker)
      (es : List CellEvent) (e : CellEvent) (next : List CellEvent)
      → IsEvent cells e new → es ≡ e ∷ next → slice_get ws k ≡ Some x → Works x es y
      → ((z : Worker) → Works z next y → Goes new (slice_set ws k z) history)
      → Goes cells ws (entry_by k e ∷ history)
  reaches history cells new ws x y es e next event long is rests go = absurd cc
  reaches history cells new ws x y es e next event long is
      (moves {n = n} {p = p} {s = s} {t = t} f later) go =
      let m : Worker = Running n p t in
      quietly (entry_by k e ∷ history) cells ws n p s t is f
      (reaches history cells new (slice_set ws k m) m y es e next event long
      (got_set ws k (Running n p s) m is) later
      (λ z rest. subst (λ (l : List Worker). Goes new l history) (sym (set-set ws k m z))
      (go z rest)))
  reaches history cells new ws x y es e next event long is
      (touches {n = n} {p = p} {s = s} {next = f} {e = d} {es = ds} a later) go =
      let same : d ≡ e = cc in
      let tail : ds ≡ next = cc in
      touching history cells new ws n p s f e is
      (subst (λ (b : CellEvent). step p s ≡ Operates b.cell b.op f) same a) event
      (go (Running n p (f e.reply))
      (subst (λ (b : CellEvent). Works (Running n p (f b.reply)) next y) same
      (subst (λ (l : List CellEvent). Works (Running n p (f d.reply)) l y) tail later)))
  reaches history cells new ws x y es e next event long is (closes f) go = absurd cc
