-- A run takes its next step, and is done after as many as its program has slots.
use Rattle.std.proofs.Common.{◌≡◌, ◌≢◌, ℕ, suc, ◌+◌, ◌≤◌, List, [], ◌∷◌, length, take}
use Rattle.std.proofs.Common.{Ok, Err, Bool, true, false, refl, subst, arith}
use Rattle.std.specs.Prelude.{◌==◌, if◌then◌else◌}
use Rattle.bpf_semantics.specs.Program.{ShapedProgram}
use Rattle.bpf_semantics.specs.State.{State}
use Rattle.bpf_semantics.specs.Outcome.{Going, Done}
use Rattle.bpf_semantics.specs.Step.{step}
use Rattle.world.specs.World.{WorldState, Running, IsWorker}
use Rattle.world.specs.Counters.{answered}
use Rattle.world.specs.Happens.{Answer, StepsRun, EndsRun, Happens, Plays, with_step}
use Rattle.world.specs.History.{made_at, EndsDuring}
use Rattle.world.specs.InTime.{EndsInTime, steps_of, HasEnded}
use Rattle.world.specs.declared.event.Event.{Event}
use Rattle.world.specs.declared.event.Event.TheVariants.{Start, Step, Finish, Swap}
use Rattle.world.specs.declared.event.Effect.TheVariants as effect
use Rattle.world.proofs.Runs.{Laws, follows}
use Rattle.world.proofs.Safe.{AllSafe, all_safe, happens_safe, is_safe}
use Rattle.world.proofs.Workers.{same_worker, steps_on, get_set_same, stays, stays_other}
use Rattle.world.proofs.Workers.{start_refused, finish_refused}
use Rattle.world.proofs.During.{made_by_other, later_end, goes_during, ends_during, rests_now}

-- ---- one event

-- an end after the event, of a run that the event continues
later : (w u : WorldState) (k : ℕ) (program : ShapedProgram) (s t : State) (e : Event) (r : Answer)
    (es : List Event) (rs : List Answer)
    → ((es : List Event) (rs : List Answer) (choice count : ℕ)
    → EndsDuring u k es rs program t choice count
    → EndsDuring w k (e ∷ es) (r ∷ rs) program s choice count)
    → HasEnded u k program t es rs → HasEnded w k program s (e ∷ es) (r ∷ rs)
later w u k program s t e r es rs leads ended = record {
  place = suc ended.place;
  choice = ended.choice;
  instructions = ended.instructions;
  event_is = ended.event_is;
  answer_is = ended.answer_is;
  ends =
      leads (take (suc ended.place) es) (take (suc ended.place) rs) ended.choice ended.instructions
      ended.ends;
}

-- an event that makes no counter event for the worker, and leaves it as it is
later_as_is : (w u : WorldState) (k : ℕ) (program : ShapedProgram) (s : State) (e : Event)
    (r : Answer)
    (es : List Event) (rs : List Answer) → Happens w e r u → made_at k w e ≡ []
    → HasEnded u k program s es rs → HasEnded w k program s (e ∷ es) (r ∷ rs)
later_as_is w u k program s e r es rs h none =
    later w u k program s s e r es rs
    (λ ds qs choice count. later_end w u k e r ds qs program s choice count h none)

-- what a worker's Step leads to
record NextState (w u : WorldState) (k number : ℕ) (program : ShapedProgram)
    (s : State) : Type 0 where
  to : State
  goes_on : answered w.cells (step program s) ≡ Going to
  running : IsWorker u k (Running number program to)

-- the run of a worker continues by its step
next_state : (w u : WorldState) (k number : ℕ) (program : ShapedProgram) (s : State)
    → StepsRun w k u
    → IsWorker w k (Running number program s) → NextState w u k number program s
next_state w u k number program s h is =
    by_worker h.number h.program h.from h.to
    (same_worker w k (Running number program s) (Running h.number h.program h.from) is h.running)
    h.goes_on h.after
  where
    by_worker : (n : ℕ) (p : ShapedProgram) (x t : State) → Running number program s ≡ Running n p x
        → answered w.cells (step p x) ≡ Going t
        → u ≡ with_step w k (step p x) (Running n p t) → NextState w u k number program s
    by_worker n p x t same going next =
        let number_is : number ≡ n = cc in
        let program_is : program ≡ p = cc in
        let state_is : s ≡ x = cc in
        record {
          to = t;
          goes_on = rw (program_is, state_is) going;
          running = rw (next, number_is, program_is)
              (get_set_same w.workers k (Running number program s) (Running n p t) is);
        }

-- or ends by it
end_of : (w u : WorldState) (k number choice : ℕ) (program : ShapedProgram) (s : State)
    → EndsRun w k choice u → IsWorker w k (Running number program s) → step program s ≡ Done choice
end_of w u k number choice program s h is =
    by_worker h.number h.program h.from
    (same_worker w k (Running number program s) (Running h.number h.program h.from) is h.running)
    h.ends
  where
    by_worker : (n : ℕ) (p : ShapedProgram) (x : State) → Running number program s ≡ Running n p x
        → step p x ≡ Done choice → step program s ≡ Done choice
    by_worker n p x same done =
        let program_is : program ≡ p = cc in
        let state_is : s ≡ x = cc in
        rw (program_is, state_is) done

-- ---- the number of steps

-- the claim for the rest of the events, from a state on
abbrev IsInTime : WorldState → ℕ → ℕ → ShapedProgram → List Event → List Answer → Type 0
IsInTime u k number program es rs = (t : State) → IsWorker u k (Running number program t)
    → length program.code ≤ t.count + steps_of k es → HasEnded u k program t es rs

-- a Step of this worker, whose run continues or ends here
own_step : Laws → (w u : WorldState) (k number : ℕ) (program : ShapedProgram) (s : State)
    (es : List Event) (r : Answer) (rs : List Answer) → IsWorker w k (Running number program s)
    → Happens w (Step k) r u → length program.code ≤ s.count + suc (steps_of k es)
    → IsInTime u k number program es rs → HasEnded w k program s (Step k ∷ es) (r ∷ rs)
own_step law w u k number program s es (Ok effect.Stepped) rs is h short rest =
    let next = next_state w u k number program s h is in
    let count = (follows w.cells s next.to (step program s)
    (law.counts program s) next.goes_on).count in
    later w u k program s next.to (Step k) (Ok effect.Stepped) es rs
    (λ ds qs choice total. goes_during w u k number (Ok effect.Stepped) ds qs program s next.to
    choice total h is next.goes_on)
    (rest next.to next.running (omega (arith, count, short)))
own_step law w u k number program s es (Ok (effect.Ended choice)) rs is h short rest = record {
  place = 0;
  choice = choice;
  instructions = s.count + 1;
  event_is = refl;
  answer_is = refl;
  ends =
      ends_during w u k number (Ok (effect.Ended choice)) [] [] program s choice h is
      (end_of w u k number choice program s h is) (rests_now u k);
}
own_step law w u k number program s es (Err f) rs is h short rest =
    let ok : false ≡ true = steps_on w u k (Running number program s) (Err f) is tt h in absurd cc
own_step law w u k number program s es (Ok a) rs is h short rest = absurd h

equal_of : (j k : ℕ) → (j == k) ≡ true → j ≡ k
equal_of j k e = grind arith

other_of : (j k : ℕ) → (j == k) ≡ false → j ≢ k
other_of j k e = grind arith

step_in_time : Laws → (w u : WorldState) (k j number : ℕ) (program : ShapedProgram) (s : State)
    (es : List Event) (r : Answer) (rs : List Answer) → IsWorker w k (Running number program s)
    → Happens w (Step j) r u → IsInTime u k number program es rs → (b : Bool) → (j == k) ≡ b
    → length program.code ≤ s.count + (if b then suc (steps_of k es) else steps_of k es)
    → HasEnded w k program s (Step j ∷ es) (r ∷ rs)
step_in_time law w u k j number program s es r rs is h rest true e short =
    let same = equal_of j k e in
    rw same
    (own_step law w u k number program s es r rs is
    (subst (λ (i : ℕ). Happens w (Step i) r u) same h) short rest)
step_in_time law w u k j number program s es r rs is h rest false e short =
    let other = other_of j k e in
    later_as_is w u k program s (Step j) r es rs h (made_by_other k w (Step j) other)
    (rest s (stays_other w u k (Running number program s) (Step j) r other h is) short)

in_time_from : Laws → (w v : WorldState) (k number : ℕ) (program : ShapedProgram) (s : State)
    (es : List Event) (rs : List Answer) → AllSafe w → IsWorker w k (Running number program s)
    → Plays w es rs v → length program.code ≤ s.count + steps_of k es → HasEnded w k program s es rs
in_time_from law w v k number program s [] [] safe is plays short =
    let below = ((is_safe law w safe).running k number program s is).short in
    absurd (omega (arith, below, short))
in_time_from law w v k number program s (Start j attrs ∷ es) (r ∷ rs) safe is plays short =
    let kept = stays w plays.0 k number program s (Start j attrs) r
    (λ same. start_refused w plays.0 k number program s attrs r
    (subst (λ (i : ℕ). Happens w (Start i attrs) r plays.0) same plays.1) is)
    plays.1 is in
    later_as_is w plays.0 k program s (Start j attrs) r es rs plays.1 refl
    (in_time_from law plays.0 v k number program s es rs
    (happens_safe law w plays.0 (Start j attrs) r safe plays.1) kept plays.2 short)
in_time_from law w v k number program s (Finish j ∷ es) (r ∷ rs) safe is plays short =
    let kept = stays w plays.0 k number program s (Finish j) r
    (λ same. finish_refused w plays.0 k number program s r
    (subst (λ (i : ℕ). Happens w (Finish i) r plays.0) same plays.1) is)
    plays.1 is in
    later_as_is w plays.0 k program s (Finish j) r es rs plays.1 refl
    (in_time_from law plays.0 v k number program s es rs
    (happens_safe law w plays.0 (Finish j) r safe plays.1) kept plays.2 short)
in_time_from law w v k number program s (Step j ∷ es) (r ∷ rs) safe is plays short =
    step_in_time law w plays.0 k j number program s es r rs is plays.1
    (λ t there fits. in_time_from law plays.0 v k number program t es rs
    (happens_safe law w plays.0 (Step j) r safe plays.1) there plays.2 fits)
    (j == k) refl short
in_time_from law w v k number program s (Swap rules ∷ es) (r ∷ rs) safe is plays short =
    let kept = stays w plays.0 k number program s (Swap rules) r (λ none. absurd none) plays.1 is in
    later_as_is w plays.0 k program s (Swap rules) r es rs plays.1 refl
    (in_time_from law plays.0 v k number program s es rs
    (happens_safe law w plays.0 (Swap rules) r safe plays.1) kept plays.2 short)
in_time_from law w v k number program s [] (r ∷ rs) safe is plays short = absurd plays
in_time_from law w v k number program s (e ∷ es) [] safe is plays short = absurd plays

pub in_time : Laws → EndsInTime
in_time law w v k number program s es rs safe =
    in_time_from law w v k number program s es rs (all_safe w safe)
