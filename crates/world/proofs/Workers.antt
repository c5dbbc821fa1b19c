-- What an event makes of a worker that has a run, and of the other workers.
use Rattle.std.proofs.Common.{◌≡◌, ◌≢◌, Global, ℕ, zero, suc, ◌≤◌, List, [], ◌∷◌, length, Some, Ok}
use Rattle.std.proofs.Common.{Err, ◌⊎◌, inl, inr, refl, sym, ap, subst, ◌∙◌, arith}
use Rattle.std.specs.Prelude.{slice_get, slice_set}
use Rattle.std.proofs.lemmas.Bool.{cases_eq}
use Rattle.std.proofs.lemmas.Option.{slice_get_within}
use Rattle.std.specs.declared.sync.Arc.{Arc}
use Rattle.attrs.specs.Attributes.{Attributes}
use Rattle.bpf_semantics.specs.State.{State}
use Rattle.bpf_semantics.specs.Program.{ShapedProgram}
use Rattle.world.specs.World.{WorldState, Worker, Idle, Running, Ended, IsWorker, IsRunning}
use Rattle.world.specs.Happens.{Answer, Happens}
use Rattle.world.specs.InTime.{TakesItsStep}
use Rattle.world.specs.declared.event.Event.{Event}
use Rattle.world.specs.declared.event.Event.TheVariants.{Start, Step, Finish, Swap}
use Rattle.world.specs.declared.event.Effect.TheVariants as effect
use Rattle.world.specs.declared.event.WorldFault.TheVariants as fault

pub same_worker : (w : WorldState) (k : ℕ) (x y : Worker) → IsWorker w k x → IsWorker w k y → x ≡ y
same_worker w k x y here there = let both = sym here ∙ there in cc

pub within : (w : WorldState) (k : ℕ) (x : Worker) → IsWorker w k x → length w.workers ≤ k → ⊥
within w k x is past = let less = slice_get_within w.workers k x is in omega (arith, less, past)

pub steps_on : TakesItsStep
steps_on w v k x (Ok e) is running happens = refl
steps_on w v k x (Err fault.NoWorker) is running happens = absurd (within w k x is happens.0)
steps_on w v k x (Err fault.Idle) is running happens =
    absurd (happens.0.2 (subst IsRunning (same_worker w k x happens.0.0 is happens.0.1) running))
steps_on w v k x (Err f) is running happens = absurd happens.0

-- ---- a worker that has a run, and an event

pub get_set_same : (ws : List Worker) (k : ℕ) (x y : Worker) → slice_get ws k ≡ Some x
    → slice_get (slice_set ws k y) k ≡ Some y
get_set_same [] k x y is = absurd cc
get_set_same (a ∷ ws) zero x y is = refl
get_set_same (a ∷ ws) (suc k) x y is = get_set_same ws k x y is

get_set_other : (ws : List Worker) (j k : ℕ) (y : Worker) → j ≢ k
    → slice_get (slice_set ws j y) k ≡ slice_get ws k
get_set_other [] j k y other = refl
get_set_other (a ∷ ws) zero zero y other = absurd (other refl)
get_set_other (a ∷ ws) zero (suc k) y other = refl
get_set_other (a ∷ ws) (suc j) zero y other = refl
get_set_other (a ∷ ws) (suc j) (suc k) y other =
    get_set_other ws j k y (λ same. other (ap suc same))

-- the event is of the worker of this number; a Swap is of none
abbrev pub IsOf : ℕ → Event → Type 0
IsOf k (Start j attrs) = j ≡ k
IsOf k (Step j) = j ≡ k
IsOf k (Finish j) = j ≡ k
IsOf k (Swap rules) = ⊥

pub is_of : (k : ℕ) (e : Event) → IsOf k e ⊎ (¬ IsOf k e)
is_of k (Start j attrs) = cases_eq j k
is_of k (Step j) = cases_eq j k
is_of k (Finish j) = cases_eq j k
is_of k (Swap rules) = inr (λ none. none)

-- an event leaves the other workers as they are
pub stays_other : (w u : WorldState) (k : ℕ) (x : Worker) (e : Event) (r : Answer)
    → ¬ IsOf k e → Happens w e r u → IsWorker w k x → IsWorker u k x
stays_other w u k x (Start j attrs) (Ok effect.Started) other h is =
    rw (h.after, get_set_other w.workers j k _ other) is
stays_other w u k x (Step j) (Ok effect.Stepped) other h is =
    rw (h.after, get_set_other w.workers j k _ other) is
stays_other w u k x (Step j) (Ok (effect.Ended choice)) other h is =
    rw (h.after, get_set_other w.workers j k _ other) is
stays_other w u k x (Finish j) (Ok (effect.Finished choice instructions number)) other h is =
    rw (h.after, get_set_other w.workers j k _ other) is
stays_other w u k x (Swap rules) (Ok (effect.Swapped number)) other h is = rw h.after is
stays_other w u k x (Start j attrs) (Err f) other h is = rw h.1 is
stays_other w u k x (Step j) (Err f) other h is = rw h.1 is
stays_other w u k x (Finish j) (Err f) other h is = rw h.1 is
stays_other w u k x (Swap rules) (Err f) other h is = rw h.1 is
stays_other w u k x e (Ok a) other h is = absurd h

not_idle : (w : WorldState) (k number : ℕ) (program : ShapedProgram) (s : State)
    → IsWorker w k (Running number program s) → IsWorker w k Idle → ⊥
not_idle w k number program s is idle =
    subst IsRunning (same_worker w k (Running number program s) Idle is idle) tt

not_ended : (w : WorldState) (k number n : ℕ) (program p : ShapedProgram) (s : State)
    (a : Attributes)
    (choice instructions : ℕ) → IsWorker w k (Running number program s)
    → IsWorker w k (Ended n p a choice instructions) → ⊥
not_ended w k number n program p s a choice instructions is ended =
    subst IsRunning (same_worker w k (Running number program s) (Ended n p a choice instructions) is
    ended) tt

-- a running worker's Start and Finish are refused
pub start_refused : (w u : WorldState) (k number : ℕ) (program : ShapedProgram) (s : State)
    (attrs : Arc Attributes Global) (r : Answer) → Happens w (Start k attrs) r u
    → IsWorker w k (Running number program s) → u ≡ w
start_refused w u k number program s attrs (Ok effect.Started) h is =
    absurd (not_idle w k number program s is h.idle)
start_refused w u k number program s attrs (Err f) h is = h.1
start_refused w u k number program s attrs (Ok a) h is = absurd h

pub finish_refused : (w u : WorldState) (k number : ℕ) (program : ShapedProgram) (s : State)
    (r : Answer)
    → Happens w (Finish k) r u → IsWorker w k (Running number program s) → u ≡ w
finish_refused w u k number program s (Ok (effect.Finished choice instructions n)) h is =
    absurd (not_ended w k number n program h.program s h.attributes choice instructions is h.ended)
finish_refused w u k number program s (Err f) h is = h.1
finish_refused w u k number program s (Ok a) h is = absurd h

pub stays : (w u : WorldState) (k number : ℕ) (program : ShapedProgram) (s : State) (e : Event)
    (r : Answer)
    → (IsOf k e → u ≡ w) → Happens w e r u → IsWorker w k (Running number program s)
    → IsWorker u k (Running number program s)
stays w u k number program s e r refused h is = elim (is_of k e) [
  | inl same ↦ rw (refused same) is
  | inr other ↦ stays_other w u k (Running number program s) e r other h is
]

-- no event makes or ends a worker
there_before : (ws : List Worker) (j k : ℕ) (x y : Worker)
    → slice_get (slice_set ws j y) k ≡ Some x → (z : Worker) × (slice_get ws k ≡ Some z)
there_before [] j k x y is = (x, is)
there_before (a ∷ ws) zero zero x y is = (a, refl)
there_before (a ∷ ws) zero (suc k) x y is = (x, is)
there_before (a ∷ ws) (suc j) zero x y is = (a, refl)
there_before (a ∷ ws) (suc j) (suc k) x y is = there_before ws j k x y is

pub worker_before : (w u : WorldState) (k : ℕ) (x : Worker) (e : Event) (r : Answer)
    → Happens w e r u
    → IsWorker u k x → (z : Worker) × IsWorker w k z
worker_before w u k x (Start j attrs) (Ok effect.Started) h is =
    there_before w.workers j k x _ (subst (λ (a : WorldState). IsWorker a k x) h.after is)
worker_before w u k x (Step j) (Ok effect.Stepped) h is =
    there_before w.workers j k x _ (subst (λ (a : WorldState). IsWorker a k x) h.after is)
worker_before w u k x (Step j) (Ok (effect.Ended choice)) h is =
    there_before w.workers j k x _ (subst (λ (a : WorldState). IsWorker a k x) h.after is)
worker_before w u k x (Finish j) (Ok (effect.Finished choice instructions number)) h is =
    there_before w.workers j k x Idle (subst (λ (a : WorldState). IsWorker a k x) h.after is)
worker_before w u k x (Swap rules) (Ok (effect.Swapped number)) h is =
    (x, subst (λ (a : WorldState). IsWorker a k x) h.after is)
worker_before w u k x (Start j attrs) (Err f) h is =
    (x, subst (λ (a : WorldState). IsWorker a k x) h.1 is)
worker_before w u k x (Step j) (Err f) h is = (x, subst (λ (a : WorldState). IsWorker a k x) h.1 is)
worker_before w u k x (Finish j) (Err f) h is =
    (x, subst (λ (a : WorldState). IsWorker a k x) h.1 is)
worker_before w u k x (Swap rules) (Err f) h is =
    (x, subst (λ (a : WorldState). IsWorker a k x) h.1 is)
worker_before w u k x e (Ok a) h is = absurd h
