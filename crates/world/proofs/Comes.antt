-- The result of a worker's run, from the world before an event and from the one after it.
use Rattle.std.proofs.Common.{◌≡◌, ◌≢◌, Global, ℕ, ◌+◌, List, [], ◌∷◌, Ok, Err, ◌⊎◌, inl, inr, refl}
use Rattle.std.proofs.Common.{sym, subst}
use Rattle.std.specs.Arc.{arc_value}
use Rattle.std.specs.declared.sync.Arc.{Arc}
use Rattle.attrs.specs.Attributes.{Attributes, AreShort}
use Rattle.bpf_semantics.specs.Program.{ShapedProgram}
use Rattle.bpf_semantics.specs.State.{opening}
use Rattle.ruleset.specs.Rules.{appid_of}
use Rattle.world.specs.World.{WorldState, Worker, Idle, Running, Ended, IsWorker, HasProgram}
use Rattle.world.specs.World.{newest}
use Rattle.world.specs.Happens.{Answer, StartsRun, StepsRun, EndsRun, Happens}
use Rattle.world.specs.History.{made_at, EndsDuring}
use Rattle.world.specs.OwnRun.{HasResult}
use Rattle.world.specs.declared.event.Event.{Event}
use Rattle.world.specs.declared.event.Event.TheVariants.{Start, Step, Finish, Swap}
use Rattle.world.specs.declared.event.Effect.TheVariants as effect
use Rattle.world.specs.declared.event.WorldFault.{WorldFault}
use Rattle.world.specs.declared.event.WorldFault.TheVariants as fault
use Rattle.world.proofs.Workers.{same_worker, within, get_set_same, stays_other, IsOf, is_of}
use Rattle.world.proofs.During.{made_by_other, made_idle, later_end, goes_during, ends_during}
use Rattle.world.proofs.During.{RestsDuring, later_rest}

-- the same as `HasResult`; also, a run that has ended makes no more events
abbrev pub Comes : WorldState → ℕ → Worker → List Event → List Answer → ℕ → ℕ
    → ℕ → Type 0
Comes w k Idle es rs number choice instructions = ⊥
Comes w k (Running n program s) es rs number choice instructions =
    (number ≡ n) × EndsDuring w k es rs program s choice instructions
Comes w k (Ended n program a c m) es rs number choice instructions =
    (number ≡ n) × (choice ≡ c) × (instructions ≡ m) × RestsDuring w k es rs

pub comes_to : (w : WorldState) (k : ℕ) (x : Worker) (es : List Event) (rs : List Answer)
    (number choice instructions : ℕ) → Comes w k x es rs number choice instructions
    → HasResult w k x es rs number choice instructions
comes_to w k Idle es rs number choice instructions comes = comes
comes_to w k (Running n program s) es rs number choice instructions comes = comes
comes_to w k (Ended n program a c m) es rs number choice instructions comes =
    (comes.0, comes.1, comes.2)

-- ---- one event, backwards

-- the event isn't an accepted Start of the worker
abbrev pub IsNoStart : ℕ → Event → Answer → Type 0
IsNoStart k e r = (attrs : Arc Attributes Global) → e ≡ Start k attrs → r ≢ Ok effect.Started

-- the event started the worker's run
pub record IsStart (w : WorldState) (k : ℕ) (y : Worker) (e : Event) (r : Answer) : Type 0 where
  pub attrs : Arc Attributes Global
  pub program : ShapedProgram
  pub event_is : e ≡ Start k attrs
  pub answer_is : r ≡ Ok effect.Started
  pub offered : HasProgram w.rulesets (newest w.rulesets) (appid_of (arc_value attrs)) program
  pub texts_are_short : AreShort (arc_value attrs).texts
  pub after : y ≡ Running (newest w.rulesets) program (opening (arc_value attrs))

-- the result of worker y after the event is the result of worker x before it
abbrev Carries : WorldState → WorldState → ℕ → Worker → Worker → Event → Answer → Type 0
Carries w u k x y e r = (es : List Event) (rs : List Answer) (number choice instructions : ℕ)
    → Comes u k y es rs number choice instructions
    → Comes w k x (e ∷ es) (r ∷ rs) number choice instructions

-- the event started no run
pub record IsCarried (w u : WorldState) (k : ℕ) (x y : Worker) (e : Event)
    (r : Answer) : Type 0 where
  pub none : IsNoStart k e r
  pub comes : Carries w u k x y e r

-- the worker after the event
pub record Goes (w u : WorldState) (k : ℕ) (x : Worker) (e : Event) (r : Answer) : Type 0 where
  pub worker : Worker
  pub is_worker : IsWorker u k worker
  pub how : IsStart w k worker e r ⊎ IsCarried w u k x worker e r

-- an event that makes no counter event for the worker, and leaves it as it is
as_is : (w u : WorldState) (k : ℕ) (x : Worker) (e : Event) (r : Answer) → Happens w e r u
    → made_at k w e ≡ [] → Carries w u k x x e r
as_is w u k Idle e r h none es rs number choice instructions comes = absurd comes
as_is w u k (Running n program s) e r h none es rs number choice instructions comes =
    (comes.0, later_end w u k e r es rs program s choice instructions h none comes.1)
as_is w u k (Ended n program a c m) e r h none es rs number choice instructions comes =
    (comes.0, comes.1, comes.2, later_rest w u k e r es rs h none comes.3)

-- ---- the event of the worker

started : (w u : WorldState) (k : ℕ) (x : Worker) (attrs : Arc Attributes Global)
    → StartsRun w k (arc_value attrs) u → Goes w u k x (Start k attrs) (Ok effect.Started)
started w u k x attrs h =
    let run : Worker = Running (newest w.rulesets) h.program (opening (arc_value attrs)) in
    record {
      worker = run;
      is_worker = rw h.after (get_set_same w.workers k Idle run h.idle);
      how = inl (record {
        attrs = attrs;
        program = h.program;
        event_is = refl;
        answer_is = refl;
        offered =
            h.offered;
        texts_are_short = h.texts_are_short;
        after = refl;
      });
    }

-- the worker was x; it was also z, so the two are equal
carried : (w u : WorldState) (k : ℕ) (x y z : Worker) (e : Event) (r : Answer) → IsWorker w k x
    → IsWorker w k z → IsWorker u k y → IsNoStart k e r → Carries w u k z y e r → Goes w u k x e r
carried w u k x y z e r is there after none comes = record {
  worker = y;
  is_worker = after;
  how = inr (record {
    none = none;
    comes = subst (λ (a : Worker). Carries w u k a y e r) (same_worker w k z x there is) comes;
  });
}

stepped : (w u : WorldState) (k : ℕ) (x : Worker) → IsWorker w k x → StepsRun w k u
    → Goes w u k x (Step k) (Ok effect.Stepped)
stepped w u k x is h =
    let before : Worker = Running h.number h.program h.from in
    let after : Worker = Running h.number h.program h.to in
    carried w u k x after before (Step k) (Ok effect.Stepped) is h.running
    (rw h.after (get_set_same w.workers k before after h.running)) (λ attrs same start. absurd cc)
    (λ es rs n c m comes. (
      comes.0,
      goes_during w u k h.number (Ok effect.Stepped) es rs h.program h.from h.to c m h h.running
          h.goes_on comes.1,
    ))

ended : (w u : WorldState) (k choice : ℕ) (x : Worker) → IsWorker w k x → EndsRun w k choice u
    → Goes w u k x (Step k) (Ok (effect.Ended choice))
ended w u k choice x is h =
    let before : Worker = Running h.number h.program h.from in
    let count = h.from.count + 1 in
    let after : Worker = Ended h.number h.program h.from.attributes choice count in
    carried w u k x after before (Step k) (Ok (effect.Ended choice)) is h.running
    (rw h.after (get_set_same w.workers k before after h.running)) (λ attrs same start. absurd cc)
    (λ es rs n c m comes. (
      comes.0,
      subst (λ (i : ℕ). EndsDuring w k (Step k ∷ es) (Ok (effect.Ended choice) ∷ rs) h.program
          h.from c i) (sym comes.2)
          (subst (λ (i : ℕ). EndsDuring w k (Step k ∷ es) (Ok (effect.Ended choice) ∷ rs) h.program
          h.from i count) (sym comes.1)
          (ends_during w u k h.number (Ok (effect.Ended choice)) es rs h.program h.from choice h
          h.running h.ends comes.3)),
    ))

-- a refused event
refused : (w u : WorldState) (k : ℕ) (x : Worker) (e : Event) (f : WorldFault) → IsWorker w k x
    → Happens w e (Err f) u → u ≡ w → made_at k w e ≡ [] → Goes w u k x e (Err f)
refused w u k x e f is h same none = record {
  worker = x;
  is_worker = rw same is;
  how = inr (record
      { none = λ attrs start started. absurd cc; comes = as_is w u k x e (Err f) h none });
}

start_goes : (w u : WorldState) (k : ℕ) (x : Worker) (attrs : Arc Attributes Global) (r : Answer)
    → IsWorker w k x → Happens w (Start k attrs) r u → Goes w u k x (Start k attrs) r
start_goes w u k x attrs (Ok effect.Started) is h = started w u k x attrs h
start_goes w u k x attrs (Err f) is h = refused w u k x (Start k attrs) f is h h.1 refl
start_goes w u k x attrs (Ok a) is h = absurd h

step_goes : (w u : WorldState) (k : ℕ) (x : Worker) (r : Answer) → IsWorker w k x
    → Happens w (Step k) r u → Goes w u k x (Step k) r
step_goes w u k x (Ok effect.Stepped) is h = stepped w u k x is h
step_goes w u k x (Ok (effect.Ended choice)) is h = ended w u k choice x is h
step_goes w u k x (Err fault.NoWorker) is h = absurd (within w k x is h.0)
step_goes w u k x (Err fault.Idle) is h =
    refused w u k x (Step k) fault.Idle is h h.1 (made_idle k w h.0.0 h.0.1 h.0.2)
step_goes w u k x (Err f) is h = absurd h.0
step_goes w u k x (Ok a) is h = absurd h

finish_goes : (w u : WorldState) (k : ℕ) (x : Worker) (r : Answer) → IsWorker w k x
    → Happens w (Finish k) r u → Goes w u k x (Finish k) r
finish_goes w u k x (Ok (effect.Finished choice instructions number)) is h =
    let before : Worker = Ended number h.program h.attributes choice instructions in
    carried w u k x Idle before (Finish k) (Ok (effect.Finished choice instructions number)) is
    h.ended
    (rw h.after (get_set_same w.workers k before Idle h.ended)) (λ attrs same start. absurd cc)
    (λ es rs n c m comes. absurd comes)
finish_goes w u k x (Err f) is h = refused w u k x (Finish k) f is h h.1 refl
finish_goes w u k x (Ok a) is h = absurd h

own : (w u : WorldState) (k : ℕ) (x : Worker) (e : Event) (r : Answer) → IsOf k e → IsWorker w k x
    → Happens w e r u → Goes w u k x e r
own w u k x (Start j attrs) r same is h =
    subst (λ (i : ℕ). Goes w u i x (Start j attrs) r) same
    (start_goes w u j x attrs r (subst (λ (i : ℕ). IsWorker w i x) (sym same) is) h)
own w u k x (Step j) r same is h =
    subst (λ (i : ℕ). Goes w u i x (Step j) r) same
    (step_goes w u j x r (subst (λ (i : ℕ). IsWorker w i x) (sym same) is) h)
own w u k x (Finish j) r same is h =
    subst (λ (i : ℕ). Goes w u i x (Finish j) r) same
    (finish_goes w u j x r (subst (λ (i : ℕ). IsWorker w i x) (sym same) is) h)
own w u k x (Swap rules) r same is h = absurd same

pub goes : (w u : WorldState) (k : ℕ) (x : Worker) (e : Event) (r : Answer) → IsWorker w k x
    → Happens w e r u → Goes w u k x e r
goes w u k x e r is h = elim (is_of k e) [
  | inl mine ↦ own w u k x e r mine is h
  | inr other ↦ record {
    worker = x;
    is_worker = stays_other w u k x e r other h is;
    how = inr (record {
      none = λ attrs start. absurd (other (rw start refl));
      comes = as_is w u k x e r h (made_by_other k w e other);
    });
  }
]
