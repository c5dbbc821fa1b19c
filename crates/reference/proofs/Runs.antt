-- Runs, by their steps from the first one.
use Rattle.std.proofs.Common.{◌≡◌, ◌≢◌, ℕ, ◌+◌, ◌<◌, ◌∙◌, List, [], ◌∷◌, ◌++◌, subst, sym, ap, refl}
use Rattle.std.proofs.Common.{append_assoc, append-nil}
use Rattle.cells.specs.declared.event.CellEvent.{CellEvent}
use Rattle.bpf_semantics.specs.Program.{ShapedProgram}
use Rattle.bpf_semantics.specs.State.{State}
use Rattle.bpf_semantics.specs.Outcome.{Outcome, Done, Trap}
use Rattle.bpf_semantics.specs.Run.{Ends, Traps}
use Rattle.bpf_semantics.specs.Run.Ends.{last, more}
use Rattle.bpf_semantics.specs.Run.Ends.{operated as asked_then}
use Rattle.bpf_semantics.specs.Run.Traps.{now, later, replied}
use Rattle.bpf_semantics.specs.Step.{step}
use Rattle.bpf_semantics.specs.Laws.{IsNext}
use Rattle.cells.specs.Grown.{GrewBy, GrowsBySnoc}
use Rattle.reference.specs.declared.observed.Observed.{Observed}
use Rattle.reference.specs.declared.observed.Observed.TheVariants as observed
use Rattle.reference.specs.Observed.{IsStep, Grew}
use Rattle.reference.specs.declared.observed.RunEnd.TheVariants as end
use Rattle.reference.specs.Runs.{GoesOn, IsCut, IsRun}
use Rattle.reference.specs.Runs.GoesOn.{stays, goes, operated}

-- the end of a run from a state on the way is the end of the run
pub then_ends : (p : ShapedProgram) (s : State) (es : List CellEvent) (t : State) → GoesOn p s es t
    → (ds : List CellEvent) (choice count : ℕ) → Ends p t ds choice count
    → Ends p s (es ++ ds) choice count
then_ends p s es t stays ds choice count end = end
then_ends p s es t (goes {es = fs} {t = u} before step) ds choice count end =
    then_ends p s fs u before ds choice count (more step end)
then_ends p s es t (operated {es = fs} {t = u} e before step) ds choice count end =
    subst (λ (l : List CellEvent). Ends p s l choice count) (sym (append_assoc fs (e ∷ []) ds))
    (then_ends p s fs u before (e ∷ ds) choice count (asked_then step end))

pub then_traps : (p : ShapedProgram) (s : State) (es : List CellEvent) (t : State) → GoesOn p s es t
    → (ds : List CellEvent) (count : ℕ) → Traps p t ds count → Traps p s (es ++ ds) count
then_traps p s es t stays ds count end = end
then_traps p s es t (goes {es = fs} {t = u} before step) ds count end =
    then_traps p s fs u before ds count (later step end)
then_traps p s es t (operated {es = fs} {t = u} e before step) ds count end =
    subst (λ (l : List CellEvent). Traps p s l count) (sym (append_assoc fs (e ∷ []) ds))
    (then_traps p s fs u before (e ∷ ds) count (replied step end))

-- ---- the count

abbrev pub IsGoing : Observed → Type 0
IsGoing o = ((n : ℕ) → o ≢ observed.Done n) × (o ≢ observed.Trap)

pub counted : (p : ShapedProgram) (t : State) (o : Observed) (u : State) → IsNext t (step p t)
    → IsGoing o → IsStep p t o u → u.count ≡ t.count + 1
counted p t observed.Going u law going is = (subst (IsNext t) is law).count
counted p t (observed.Event e) u law going is =
    ap (λ (s : State). s.count) is.state ∙ (subst (IsNext t) is.operates law e.reply).count
counted p t (observed.Done n) u law going is = absurd (going.0 n refl)
counted p t observed.Trap u law going is = absurd (going.1 refl)

-- ---- with a pass

module _ {P : Type 0} (grew : P → CellEvent → P → Type 0) where
  abbrev pub RunsTo : ShapedProgram → State → P → State → P → Type 0
  RunsTo p s pass t held = (es : List CellEvent) × GoesOn p s es t × GrewBy grew pass es held

  pub one_step : GrowsBySnoc grew → (p : ShapedProgram) (s : State) (pass : P) (t : State)
      (held : P)
      → (o : Observed) (u : State) (next : P) → RunsTo p s pass t held → IsGoing o → IsStep p t o u
      → Grew grew held o next → RunsTo p s pass u next
  one_step snoc p s pass t held observed.Going u next run going is grown =
      (run.0, goes run.1 is, subst (λ (q : P). GrewBy grew pass run.0 q) (sym grown) run.2)
  one_step snoc p s pass t held (observed.Event e) u next run going is grown =
      let es = run.0 ++ e ∷ [] in
      let there = subst (λ (v : State). GoesOn p s es v) (sym is.state)
      (operated e run.1 is.operates) in
      (es, there, snoc pass run.0 held e next run.2 grown)
  one_step snoc p s pass t held (observed.Done n) u next run going is grown =
      absurd (going.0 n refl)
  one_step snoc p s pass t held observed.Trap u next run going is grown = absurd (going.1 refl)

  -- the last step left the state unchanged
  cut : (p : ShapedProgram) (s : State) (es : List CellEvent) (limit : ℕ) (o : Outcome)
      (t u : State)
      → GoesOn p s es t → t.count < s.count + limit → (step p t ≡ o) × (u ≡ t)
      → IsCut p s es limit o u
  cut p s es limit o t u run within is =
      let back : t ≡ u = sym is.1 in record {
        goes_on = subst (λ (v : State). GoesOn p s es v) back run;
        within = subst (λ (v : State). v.count < s.count + limit) back within;
        next = subst (λ (v : State). step p v ≡ o) back is.0;
      }

  pub choice_of : (p : ShapedProgram) (s : State) (pass : P) (t : State) (held : P)
      (choice limit : ℕ)
      → (u : State) (next : P) → RunsTo p s pass t held → t.count < s.count + limit
      → IsStep p t (observed.Done choice) u → next ≡ held
      → (es : List CellEvent) × IsRun p s es limit (end.Choice choice) u × GrewBy grew pass es next
  choice_of p s pass t held choice limit u next run within is same =
      let es = run.0 in
      let at = cut p s es limit (Done choice) t u run.1 within is in
      let whole = then_ends p s es u at.goes_on [] choice (u.count + 1) (last at.next refl) in
      let ends = subst (λ (l : List CellEvent). Ends p s l choice (u.count + 1))
      (append-nil es) whole in
      (es, (at, ends), subst (λ (q : P). GrewBy grew pass es q) (sym same) run.2)

  pub trap_of : (p : ShapedProgram) (s : State) (pass : P) (t : State) (held : P) (limit : ℕ)
      → (u : State) (next : P) → RunsTo p s pass t held → t.count < s.count + limit
      → IsStep p t observed.Trap u → next ≡ held
      → (es : List CellEvent) × IsRun p s es limit end.Trap u × GrewBy grew pass es next
  trap_of p s pass t held limit u next run within is same =
      let es = run.0 in
      let at = cut p s es limit Trap t u run.1 within is in
      let stop = then_traps p s es u at.goes_on [] u.count (now at.next refl) in
      let traps = subst (λ (l : List CellEvent). Traps p s l u.count) (append-nil es) stop in
      (es, (at, traps), subst (λ (q : P). GrewBy grew pass es q) (sym same) run.2)
