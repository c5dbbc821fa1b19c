-- The result of a Finish is of its own run: backwards from the Finish to the Start of its run.
use Rattle.std.proofs.Common.{◌≡◌, ◌≢◌, Global, ℕ, zero, suc, ◌<◌, ◌≤◌, List, [], ◌∷◌, take, Some}
use Rattle.std.proofs.Common.{Ok, ◌⊎◌, inl, inr, refl, sym, ap, subst, arith}
use Rattle.std.specs.Prelude.{slice_get}
use Rattle.std.specs.Arc.{arc_value}
use Rattle.std.specs.declared.sync.Arc.{Arc}
use Rattle.attrs.specs.Attributes.{Attributes, AreShort}
use Rattle.bpf_semantics.specs.Program.{ShapedProgram}
use Rattle.bpf_semantics.specs.State.{opening}
use Rattle.bpf_verify.specs.Covers.{EndsWell}
use Rattle.ruleset.specs.Rules.{AlwaysEndsWell, appid_of}
use Rattle.world.specs.World.{WorldState, Worker, Idle, Ended, IsWorker, HasProgram}
use Rattle.world.specs.Happens.{Answer, Happens, Plays}
use Rattle.world.specs.History.{made_at, made_by}
use Rattle.world.specs.OwnRun.{HasNoStart, IsLatestStart, IsOwnRun, since}
use Rattle.world.specs.OwnRun.{FinishesItsRun, FinishesStartedRun, ChoosesItsRelease}
use Rattle.world.specs.declared.event.Event.{Event}
use Rattle.world.specs.declared.event.Event.TheVariants.{Start, Finish}
use Rattle.world.specs.declared.event.Effect.TheVariants as effect
use Rattle.world.proofs.Rulesets.{ends_of, as_many_releases}
use Rattle.world.proofs.Runs.{Laws, ends_well}
use Rattle.world.proofs.Safe.{all_safe, plays_safe}
use Rattle.world.proofs.Workers.{same_worker, worker_before}
use Rattle.world.proofs.During.{later_end, rests_now, made_fit}
use Rattle.world.proofs.Comes.{Comes, comes_to, IsNoStart, IsStart, Goes, goes}

no_start : (k : ℕ) (e : Event) (r : Answer) (es : List Event) (rs : List Answer) (place : ℕ)
    → IsNoStart k e r → HasNoStart k es rs place → HasNoStart k (e ∷ es) (r ∷ rs) (suc place)
no_start k e r es rs place here later zero attrs before is started =
    let event : e ≡ Start k attrs = cc in
    let answer : r ≡ Ok effect.Started = cc in
    here attrs event answer
no_start k e r es rs place here later (suc j) attrs before is started =
    later j attrs (omega (arith, before)) is started

-- ---- the Start of a run

later_latest : (k : ℕ) (e : Event) (r : Answer) (es : List Event) (rs : List Answer)
    (place start : ℕ) (attrs : Arc Attributes Global) → IsLatestStart k es rs place start attrs
    → IsLatestStart k (e ∷ es) (r ∷ rs) (suc place) (suc start) attrs
later_latest k e r es rs place start attrs run = record {
  before = omega (arith, run.before);
  event_is = run.event_is;
  answer_is = run.answer_is;
  latest = latest;
}
  where
    latest : (j : ℕ) (other : Arc Attributes Global) → suc start < j → j < suc place
        → slice_get (e ∷ es) j ≡ Some (Start k other)
        → slice_get (r ∷ rs) j ≢ Some (Ok effect.Started)
    latest zero other after before is = absurd (omega (arith, after))
    latest (suc j) other after before is =
        run.latest j other (omega (arith, after)) (omega (arith, before)) is

first_latest : (k : ℕ) (e : Event) (r : Answer) (es : List Event) (rs : List Answer) (place : ℕ)
    (attrs : Arc Attributes Global) → e ≡ Start k attrs → r ≡ Ok effect.Started
    → HasNoStart k es rs place → IsLatestStart k (e ∷ es) (r ∷ rs) (suc place) 0 attrs
first_latest k e r es rs place attrs event answer none = record {
  before = omega arith;
  event_is = ap Some event;
  answer_is = ap Some answer;
  latest = latest;
}
  where
    latest : (j : ℕ) (other : Arc Attributes Global) → 0 < j → j < suc place
        → slice_get (e ∷ es) j ≡ Some (Start k other)
        → slice_get (r ∷ rs) j ≢ Some (Ok effect.Started)
    latest zero other after before is = absurd (omega (arith, after))
    latest (suc j) other after before is = none j other (omega (arith, before)) is

-- ---- a run of the world, backwards

-- no run of the worker is started on the way, and its own has the result of the Finish
record IsOfWorker (w : WorldState) (k : ℕ) (x : Worker) (es : List Event) (rs : List Answer)
    (place number choice instructions : ℕ) : Type 0 where
  none : HasNoStart k es rs place
  comes : Comes w k x (take place es) (take place rs) number choice instructions

abbrev Found : WorldState → ℕ → Worker → List Event → List Answer → ℕ → ℕ → ℕ
    → ℕ → Type 0
Found w k x es rs place number choice instructions =
    IsOwnRun w k es rs place number choice instructions
    ⊎ IsOfWorker w k x es rs place number choice instructions

later_run : (w u : WorldState) (k : ℕ) (e : Event) (r : Answer) (es : List Event) (rs : List Answer)
    (place n c m : ℕ) → Happens w e r u → IsOwnRun u k es rs place n c m
    → IsOwnRun w k (e ∷ es) (r ∷ rs) (suc place) n c m
later_run w u k e r es rs place n c m h run = record {
  start = suc run.start;
  attrs = run.attrs;
  started = later_latest k e r es rs place run.start run.attrs run.started;
  world = run.world;
  plays = (u, h, run.plays);
  newest_is = run.newest_is;
  program = run.program;
  offered = run.offered;
  texts_are_short = run.texts_are_short;
  ends = run.ends;
}

made_none : (k : ℕ) (w : WorldState) (e : Event) (attrs : Arc Attributes Global) → e ≡ Start k attrs
    → made_at k w e ≡ []
made_none k w e attrs is = ap (made_at k w) is

started_run : (w u : WorldState) (k : ℕ) (y : Worker) (e : Event) (r : Answer) (es : List Event)
    (rs : List Answer) (place n c m : ℕ) → Happens w e r u → IsStart w k y e r
    → IsOfWorker u k y es rs place n c m → IsOwnRun w k (e ∷ es) (r ∷ rs) (suc place) n c m
started_run w u k y e r es rs place n c m h run here =
    let comes = subst (λ (a : Worker). Comes u k a (take place es) (take place rs) n c m) run.after
    here.comes in
    record {
      start = 0;
      attrs = run.attrs;
      started = first_latest k e r es rs place run.attrs run.event_is run.answer_is here.none;
      world = w;
      plays = refl;
      newest_is = comes.0;
      program = run.program;
      offered =
          subst (λ (i : ℕ). HasProgram w.rulesets i (appid_of (arc_value run.attrs)) run.program)
          (sym comes.0) run.offered;
      texts_are_short = run.texts_are_short;
      ends =
          later_end w u k e r (take place es) (take place rs) run.program
          (opening (arc_value run.attrs)) c m h
          (made_none k w e run.attrs run.event_is) comes.1;
    }

from_later : (w u : WorldState) (k : ℕ) (x : Worker) (e : Event) (r : Answer) (es : List Event)
    (rs : List Answer) (place n c m : ℕ) → Happens w e r u → (g : Goes w u k x e r)
    → Found u k g.worker es rs place n c m → Found w k x (e ∷ es) (r ∷ rs) (suc place) n c m
from_later w u k x e r es rs place n c m h g found = elim found [
  | inl run ↦ inl (later_run w u k e r es rs place n c m h run)
  | inr here ↦ elim g.how [
    | inl run ↦ inl (started_run w u k g.worker e r es rs place n c m h run here)
    | inr kept ↦ inr (record {
      none = no_start k e r es rs place kept.none here.none;
      comes = kept.comes (take place es) (take place rs) n c m here.comes;
    })
  ]
]

at_finish : (w u : WorldState) (k : ℕ) (x : Worker) (e : Event) (r : Answer) (n c m : ℕ)
    → IsWorker w k x → e ≡ Finish k → r ≡ Ok (effect.Finished c m n) → Happens w e r u
    → Comes w k x [] [] n c m
at_finish w u k x e r n c m is event answer happens =
    let h = subst (λ (a : Answer). Happens w (Finish k) a u) answer
    (subst (λ (f : Event). Happens w f r u) event happens) in
    subst (λ (y : Worker). Comes w k y [] [] n c m)
    (same_worker w k (Ended n h.program h.attributes c m) x h.ended is)
    (refl, refl, refl, rests_now w k)

found : (w v : WorldState) (k : ℕ) (x : Worker) (es : List Event) (rs : List Answer)
    (place n c m : ℕ)
    → IsWorker w k x → Plays w es rs v → slice_get es place ≡ Some (Finish k)
    → slice_get rs place ≡ Some (Ok (effect.Finished c m n)) → Found w k x es rs place n c m
found w v k x [] rs place n c m is plays event answer = absurd cc
found w v k x (e ∷ es) [] place n c m is plays event answer = absurd cc
found w v k x (e ∷ es) (r ∷ rs) zero n c m is plays event answer =
    let event_is : e ≡ Finish k = cc in
    let answer_is : r ≡ Ok (effect.Finished c m n) = cc in
    inr (record {
      none = λ j attrs before there. absurd (omega (arith, before));
      comes = at_finish w plays.0 k x e r n c m is event_is answer_is plays.1;
    })
found w v k x (e ∷ es) (r ∷ rs) (suc place) n c m is plays event answer =
    let next = goes w plays.0 k x e r is plays.1 in
    from_later w plays.0 k x e r es rs place n c m plays.1 next
    (found plays.0 v k next.worker es rs place n c m next.is_worker plays.2 event answer)

-- ---- the laws

finished_there : (w u : WorldState) (k : ℕ) (e : Event) (r : Answer) (n c m : ℕ) → e ≡ Finish k
    → r ≡ Ok (effect.Finished c m n) → Happens w e r u → (x : Worker) × IsWorker w k x
finished_there w u k e r n c m event answer happens =
    let h = subst (λ (a : Answer). Happens w (Finish k) a u) answer
    (subst (λ (f : Event). Happens w f r u) event happens) in
    (Ended n h.program h.attributes c m, h.ended)

-- a worker that a Finish names exists
worker_there : (w v : WorldState) (k : ℕ) (es : List Event) (rs : List Answer) (place n c m : ℕ)
    → Plays w es rs v → slice_get es place ≡ Some (Finish k)
    → slice_get rs place ≡ Some (Ok (effect.Finished c m n)) → (x : Worker) × IsWorker w k x
worker_there w v k [] rs place n c m plays event answer = absurd cc
worker_there w v k (e ∷ es) [] place n c m plays event answer = absurd cc
worker_there w v k (e ∷ es) (r ∷ rs) zero n c m plays event answer =
    let event_is : e ≡ Finish k = cc in
    let answer_is : r ≡ Ok (effect.Finished c m n) = cc in
    finished_there w plays.0 k e r n c m event_is answer_is plays.1
worker_there w v k (e ∷ es) (r ∷ rs) (suc place) n c m plays event answer =
    let next = worker_there plays.0 v k es rs place n c m plays.2 event answer in
    worker_before w plays.0 k next.0 e r plays.1 next.1

pub own_run : FinishesItsRun
own_run w v k place number choice instructions es rs plays finish =
    let x = worker_there w v k es rs place number choice instructions plays finish.event_is
    finish.answer_is in
    elim (found w v k x.0 es rs place number choice instructions x.1 plays finish.event_is
    finish.answer_is) [
      | inl run ↦ inl run
      | inr here ↦ inr (record {
        worker = x.0;
        is_worker = x.1;
        none = here.none;
        comes = comes_to w k x.0
            (take place es) (take place rs) number choice instructions here.comes;
      })
    ]

pub started_own_run : FinishesStartedRun
started_own_run w v k place number choice instructions es rs is plays finish =
    elim (found w v k Idle es rs place number choice instructions is plays finish.event_is
    finish.answer_is) [
      | inl run ↦ run
      | inr here ↦ absurd here.comes
    ]

-- ---- what it chose

opens_well : (program : ShapedProgram) (a : Attributes) → AreShort a.texts
    → AlwaysEndsWell program → EndsWell program (opening a)
unfolding AlwaysEndsWell
opens_well program a short always = always a short

pub own_release : Laws → ChoosesItsRelease
own_release law w k place number choice instructions es rs safe run =
    let a = arc_value run.attrs in
    let there = plays_safe law w run.world (take run.start es) (take run.start rs)
    (all_safe w safe) run.plays in
    let always = ends_of run.world.rulesets number (appid_of a) run.program there.rulesets
    run.offered in
    let well = opens_well run.program a run.texts_are_short always in
    let events = since run.start place es in
    let answers = since run.start place rs in
    let end = ends_well run.program (opening a)
    (made_by k run.world run.ends.world events answers run.ends.plays)
    choice instructions
    (made_fit law k run.world run.ends.world events answers run.ends.plays there) well
    run.ends.ends in (
      subst (λ (n : ℕ). choice ≤ n)
          (sym (as_many_releases run.world.rulesets number (appid_of a) run.program there.rulesets
          run.offered)) end.0,
      end.1,
    )
