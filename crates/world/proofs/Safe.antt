-- Safety of a world is kept by each event.
use Rattle.std.proofs.Common.{◌≡◌, ℕ, zero, suc, ◌≤◌, List, [], ◌∷◌, ◌++◌, length, Option, Some, Ok}
use Rattle.std.proofs.Common.{Err, ◌⊎◌, inl, inr, All, sym, subst}
use Rattle.std.specs.Prelude.{slice_get, slice_set}
use Rattle.std.specs.Arc.{arc_value}
use Rattle.attrs.specs.Attributes.{Attributes, AreShort}
use Rattle.bpf_semantics.specs.Program.{ShapedProgram}
use Rattle.bpf_semantics.specs.State.{opening}
use Rattle.bpf_semantics.specs.Step.{step}
use Rattle.bpf_verify.specs.Covers.{EndsWell}
use Rattle.cells.specs.Events.{AreCells}
use Rattle.ruleset.specs.Rules.{Rules, IsRuleset, AlwaysEndsWell, appid_of}
use Rattle.world.specs.World.{WorldState, Worker, Idle, Running, Ended, IsWorker, HasProgram}
use Rattle.world.specs.World.{with_worker, newest}
use Rattle.world.specs.Counters.{cells_after}
use Rattle.world.specs.Happens.{Answer, StepsRun, SwapsRules, Happens, Plays}
use Rattle.world.specs.Safe.{IsSafeWorld}
use Rattle.world.specs.declared.event.Event.{Event}
use Rattle.world.specs.declared.event.Event.TheVariants.{Start, Step, Finish, Swap}
use Rattle.world.specs.declared.event.Effect.TheVariants as effect
use Rattle.world.proofs.Rulesets.{still_offered, still_sound, as_many_releases, ends_of}
use Rattle.world.proofs.Runs.{Laws, no_trap, is_short, goes_well, ends_here, follows, cells_kept}

-- ---- a world, worker by worker

abbrev pub SafeWorker : List Rules → Worker → Type 0
SafeWorker rulesets Idle = Unit {0}
SafeWorker rulesets (Running number program s) =
    HasProgram rulesets number (appid_of s.attributes) program × EndsWell program s
SafeWorker rulesets (Ended number program a choice instructions) =
    HasProgram rulesets number (appid_of a) program
    × (choice ≤ program.shape.releases) × (instructions ≤ length program.code)

pub record AllSafe (w : WorldState) : Type 0 where
  pub cells : AreCells w.cells
  pub rulesets : All IsRuleset w.rulesets
  pub workers : (k : ℕ) (x : Worker) → IsWorker w k x → SafeWorker w.rulesets x

pub is_safe : Laws → (w : WorldState) → AllSafe w → IsSafeWorld w
is_safe law w safe = record {
  cells = safe.cells;
  rulesets = safe.rulesets;
  running = λ k number program s is.
      let worker = safe.workers k (Running number program s) is in
      record {
        offered = worker.0;
        no_trap = no_trap program s worker.1;
        short = is_short law program s worker.1;
        ends = worker.1;
      };
  ended = λ k number program a choice instructions is.
      let worker = safe.workers k (Ended number program a choice instructions) is in
      record {
        offered = worker.0;
        release =
            subst (λ (n : ℕ). choice ≤ n)
            (sym (as_many_releases w.rulesets number (appid_of a) program safe.rulesets worker.0))
            worker.1;
        short = worker.2;
      };
}

pub all_safe : (w : WorldState) → IsSafeWorld w → AllSafe w
all_safe w safe =
    record { cells = safe.cells; rulesets = safe.rulesets; workers = by_worker }
  where
    by_worker : (k : ℕ) (x : Worker) → IsWorker w k x → SafeWorker w.rulesets x
    by_worker k Idle is = tt
    by_worker k (Running number program s) is =
        let run = safe.running k number program s is in (run.offered, run.ends)
    by_worker k (Ended number program a choice instructions) is =
        let run = safe.ended k number program a choice instructions is in (
          run.offered,
          subst (λ (n : ℕ). choice ≤ n)
              (as_many_releases w.rulesets number (appid_of a) program safe.rulesets run.offered)
              run.release,
          run.short,
        )

some_worker : (x y : Worker) → ◌≡◌ {A = Option Worker} (Some x) (Some y) → x ≡ y
some_worker x y e = cc

-- after a change of one worker, each is that one or as it was
one_changed : (ws : List Worker) (k j : ℕ) (x y : Worker) → slice_get (slice_set ws k y) j ≡ Some x
    → (y ≡ x) ⊎ (slice_get ws j ≡ Some x)
one_changed [] k j x y e = inr e
one_changed (a ∷ ws) zero zero x y e = inl (some_worker y x e)
one_changed (a ∷ ws) zero (suc j) x y e = inr e
one_changed (a ∷ ws) (suc k) zero x y e = inr e
one_changed (a ∷ ws) (suc k) (suc j) x y e = one_changed ws k j x y e

-- one worker and the counters are changed
safe_with : (w : WorldState) (k : ℕ) (y : Worker) (cells : List ℕ) → AllSafe w → AreCells cells
    → SafeWorker w.rulesets y → AllSafe (record (with_worker w k y) { cells = cells })
safe_with w k y cells safe fit here = record {
  cells = fit;
  rulesets = safe.rulesets;
  workers = λ j x is. elim (one_changed w.workers k j x y is) [
    | inl same ↦ subst (SafeWorker w.rulesets) same here
    | inr there ↦ safe.workers j x there
  ];
}

-- ---- one event, and a run of the world

opens : (program : ShapedProgram) (a : Attributes) → AreShort a.texts → AlwaysEndsWell program
    → EndsWell program (opening a)
unfolding AlwaysEndsWell
opens program a short always = always a short

steps_safe : Laws → (w v : WorldState) (k : ℕ) → AllSafe w → StepsRun w k v → AllSafe v
steps_safe law w v k safe h =
    let worker = safe.workers k (Running h.number h.program h.from) h.running in
    let next = follows w.cells h.from h.to (step h.program h.from)
    (law.counts h.program h.from) h.goes_on in
    rw h.after
    (safe_with w k (Running h.number h.program h.to) (cells_after w.cells (step h.program h.from))
    safe
    (cells_kept law w.cells (step h.program h.from) safe.cells) (
      subst (λ (a : Attributes). HasProgram w.rulesets h.number (appid_of a) h.program)
          (sym next.attributes) worker.0,
      goes_well law w.cells h.program h.from h.to safe.cells worker.1 h.goes_on,
    ))

still_safe : (rs : List Rules) (r : Rules) (x : Worker) → SafeWorker rs x
    → SafeWorker (rs ++ r ∷ []) x
still_safe rs r Idle safe = tt
still_safe rs r (Running number program s) safe =
    (still_offered rs r number (appid_of s.attributes) program safe.0, safe.1)
still_safe rs r (Ended number program a choice instructions) safe =
    (still_offered rs r number (appid_of a) program safe.0, safe.1, safe.2)

swaps_safe : (w v : WorldState) (rules : Rules) (number : ℕ) → AllSafe w
    → SwapsRules w rules number v → AllSafe v
swaps_safe w v rules number safe h = rw h.after (record {
  cells = safe.cells;
  rulesets = still_sound w.rulesets rules safe.rulesets h.sound;
  workers = λ k x is. still_safe w.rulesets rules x (safe.workers k x is);
})

pub happens_safe : Laws → (w v : WorldState) (e : Event) (r : Answer) → AllSafe w
    → Happens w e r v → AllSafe v
happens_safe law w v (Start k attrs) (Ok effect.Started) safe h =
    let always = ends_of w.rulesets (newest w.rulesets) (appid_of (arc_value attrs)) h.program
    safe.rulesets h.offered in
    rw h.after (safe_with w k _ w.cells safe safe.cells
    (h.offered, opens h.program (arc_value attrs) h.texts_are_short always))
happens_safe law w v (Step k) (Ok effect.Stepped) safe h = steps_safe law w v k safe h
happens_safe law w v (Step k) (Ok (effect.Ended choice)) safe h =
    let worker = safe.workers k _ h.running in
    let end = ends_here h.program h.from choice worker.1 h.ends in
    rw h.after (safe_with w k _ w.cells safe safe.cells (worker.0, end.0, end.1))
happens_safe law w v (Finish k) (Ok (effect.Finished choice instructions number)) safe h =
    rw h.after (safe_with w k Idle w.cells safe safe.cells tt)
happens_safe law w v (Swap rules) (Ok (effect.Swapped number)) safe h =
    swaps_safe w v (arc_value rules) number safe h
happens_safe law w v (Start k attrs) (Err f) safe h = rw h.1 safe
happens_safe law w v (Step k) (Err f) safe h = rw h.1 safe
happens_safe law w v (Finish k) (Err f) safe h = rw h.1 safe
happens_safe law w v (Swap rules) (Err f) safe h = rw h.1 safe
happens_safe law w v e (Ok x) safe h = absurd h

pub plays_safe : Laws → (w v : WorldState) (es : List Event) (rs : List Answer) → AllSafe w
    → Plays w es rs v → AllSafe v
plays_safe law w v [] [] safe plays = rw plays safe
plays_safe law w v (e ∷ es) (r ∷ rs) safe plays =
    plays_safe law plays.0 v es rs (happens_safe law w plays.0 e r safe plays.1) plays.2
plays_safe law w v [] (r ∷ rs) safe plays = absurd plays
plays_safe law w v (e ∷ es) [] safe plays = absurd plays
