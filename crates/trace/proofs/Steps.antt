-- A run that is traced step by step. Any run from the present state, after the steps so far, is a
-- run from the first state. Its last jump is its own, or else the last one so far.
use Rattle.std.proofs.Common.{◌≡◌, ℕ, ◌+◌, ◌<◌, ◌≤◌, List, [], ◌∷◌, subst}
use Rattle.std.proofs.Common.{refl, arith, Option, Some, None}
use Rattle.std.specs.Option.{option_or}
use Rattle.std.specs.Prelude.{All}
use Rattle.std.proofs.lemmas.List.Elements.{All-cons, All-nil}
use Rattle.cells.specs.Events.{IsEvent}
use Rattle.cells.specs.Grown.{GrewBy}
use Rattle.cells.specs.declared.event.CellEvent.{CellEvent}
use Rattle.bpf_checks.specs.Sound.{IsLawful}
use Rattle.bpf_semantics.specs.Laws.{IsNext}
use Rattle.bpf_semantics.specs.Outcome.{Going, Done, Trap}
use Rattle.bpf_semantics.specs.Program.{ShapedProgram}
use Rattle.bpf_semantics.specs.Run.{Ends}
use Rattle.bpf_semantics.specs.Run.Ends.{last, more, operated}
use Rattle.bpf_semantics.specs.State.{State}
use Rattle.bpf_semantics.specs.Step.{step}
use Rattle.bpf_verify.specs.Covers.{IsCovered, IsSafeOutcome, StepsAreSafe}
use Rattle.bpf_verify.specs.Covers.{AreLawful, HasPossibleReply}
use Rattle.reference.specs.Observed.{IsEventStep}
use Rattle.trace.specs.Jumps.{jump_between, last_jump_of}
use Rattle.trace.specs.Trace.{IsTraced}
use Rattle.trace.specs.declared.jump.Jump.{Jump}

-- the first of three jumps that exists, in either grouping
or_again : (a b c : Option Jump) → option_or (option_or a b) c ≡ option_or a (option_or b c)
or_again None b c = refl
or_again (Some jump) b c = refl

or_none : (a : Option Jump) → option_or a None ≡ a
or_none None = refl
or_none (Some jump) = refl

module _ (p : ShapedProgram) where
  abbrev pub GoesOn : State → List ℕ → Option Jump → State → List ℕ → Type 0
  GoesOn first old jump s values =
      (events : List CellEvent) (choice count : ℕ) (left : List ℕ)
      → (rest : Ends p s events choice count) → GrewBy IsEvent values events left
      → All HasPossibleReply events → AreLawful p.shape events
      → IsTraced p first old left choice count
      (option_or (last_jump_of p s events choice count rest) jump)

  -- the state is covered, and at most as many instructions were executed as come before it
  pub record IsTold (first : State) (old : List ℕ) (jump : Option Jump) (s : State)
      (values : List ℕ) : Type 0 where
    pub covered : IsCovered p s
    pub counted : s.count ≤ s.slot
    pub goes_on : GoesOn first old jump s values

  pub covered_at_start : (first : State) (old : List ℕ) → IsCovered p first
      → first.count ≤ first.slot → IsTold first old None first old
  covered_at_start first old covered counted = record {
    covered = covered;
    counted = counted;
    goes_on = λ events choice count left rest grown fits lawful. record {
      events = events;
      grown = grown;
      ends = rest;
      fits = fits;
      lawful = lawful;
      jump_is = or_none (last_jump_of p first events choice count rest);
    };
  }

  -- the last jump of a longer run, with that of its first step moved over
  moved_over : (first : State) (old left : List ℕ) (choice count : ℕ)
      (jump taken later : Option Jump)
      → IsTraced p first old left choice count (option_or (option_or later taken) jump)
      → IsTraced p first old left choice count (option_or later (option_or taken jump))
  moved_over first old left choice count jump taken later traced =
      subst (λ (j : Option Jump). IsTraced p first old left choice count j)
      (or_again later taken jump) traced

  pub went : StepsAreSafe p → (first : State) (old : List ℕ) (jump later : Option Jump)
      (s t : State) (values after : List ℕ) → IsNext s (step p s)
      → IsTold first old jump s values → step p s ≡ Going t
      → later ≡ option_or (jump_between p s t) jump → after ≡ values
      → IsTold first old later t after
  unfolding last_jump_of
  went safe first old jump later s t values after law told is latest same =
      let ahead = subst (IsSafeOutcome p s) is (safe s told.covered) in
      let count = (subst (IsNext s) is law).count in
      let count_before = told.counted in
      let further = ahead.0 in
      rw (latest, same) (record {
        covered = ahead.1;
        counted = omega (arith, count, count_before, further);
        goes_on = λ events choice number left rest legal fits lawful.
            moved_over first old left choice number jump (jump_between p s t)
            (last_jump_of p t events choice number rest)
            (told.goes_on events choice number left (more is rest) legal fits lawful);
      })

  asked_there : StepsAreSafe p → (first : State) (old : List ℕ) (jump : Option Jump)
      (s : State) (values after : List ℕ) (e : CellEvent) (t : State) → IsNext s (step p s)
      → IsTold first old jump s values → (was : IsEventStep p s e t)
      → IsEvent values e after
      → IsTold first old (option_or (jump_between p s (was.next e.reply)) jump)
      (was.next e.reply) after
  unfolding last_jump_of
  asked_there safe first old jump s values after e t law told was event =
      let operates = subst (IsSafeOutcome p s) was.operates (safe s told.covered) in
      let ahead = operates.1 e.reply was.fits in
      let count = (subst (IsNext s) was.operates law e.reply).count in
      let count_before = told.counted in
      let further = ahead.0 in
      record {
        covered = ahead.1;
        counted = omega (arith, count, count_before, further);
        goes_on = λ events choice number left rest legal fits lawful.
            moved_over first old left choice number jump (jump_between p s (was.next e.reply))
            (last_jump_of p (was.next e.reply) events choice number rest)
            (told.goes_on (e ∷ events) choice number left (operated was.operates rest)
            (after, event, legal) (All-cons HasPossibleReply e events was.fits fits)
            (All-cons (λ d. IsLawful p.shape d.cell d.op) e events operates.0 lawful));
      }

  pub replied : StepsAreSafe p → (first : State) (old : List ℕ) (jump later : Option Jump)
      (s t : State) (values after : List ℕ) (e : CellEvent)
      → IsNext s (step p s) → IsTold first old jump s values → IsEventStep p s e t
      → IsEvent values e after → later ≡ option_or (jump_between p s t) jump
      → IsTold first old later t after
  replied safe first old jump later s t values after e law told was event latest =
      rw (latest, was.state) (asked_there safe first old jump s values after e t law told was event)

  pub ended : (first : State) (old : List ℕ) (jump : Option Jump) (s t : State)
      (values : List ℕ) (choice : ℕ) → IsTold first old jump s values
      → step p s ≡ Done choice → t ≡ s → IsTraced p first old values choice (t.count + 1) jump
  unfolding last_jump_of
  ended first old jump s t values choice told is same =
      rw same (told.goes_on [] choice (s.count + 1) values (last is refl) refl
      (All-nil HasPossibleReply) (All-nil (λ d. IsLawful p.shape d.cell d.op)))

  -- the machine defines every step, and the choice is a release or 0
  pub no_trap : StepsAreSafe p → (s : State) → IsCovered p s → step p s ≡ Trap → ⊥
  no_trap safe s covered is = subst (IsSafeOutcome p s) is (safe s covered)

  pub chooses : StepsAreSafe p → (s : State) (choice : ℕ) → IsCovered p s
      → step p s ≡ Done choice → choice ≤ p.shape.releases
  chooses safe s choice covered is = subst (IsSafeOutcome p s) is (safe s covered)

  -- a step goes forward, and stays in the program
  pub ahead : StepsAreSafe p → (s t : State) → IsCovered p s → step p s ≡ Going t → s.slot < t.slot
  ahead safe s t covered is = (subst (IsSafeOutcome p s) is (safe s covered)).0

  pub ahead_asked : StepsAreSafe p → (s t : State) (e : CellEvent) → IsCovered p s
      → IsEventStep p s e t → s.slot < t.slot
  ahead_asked safe s t e covered was =
      rw was.state ((subst (IsSafeOutcome p s) was.operates (safe s covered)).1 e.reply was.fits).0
