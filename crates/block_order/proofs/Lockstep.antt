-- Two programs in lockstep: whatever happens in a run of one happens in a run of the other, if from
-- related states their steps have the same outcome. Either may take steps of JAs on its own.
use Rattle.std.proofs.Common.{◌≡◌, ℕ, ◌+◌, List, [], ◌∷◌, refl, ap, sym, subst, ◌∙◌, inl, inr}
use Rattle.std.specs.Prelude.{◌⊎◌}
use Rattle.cells.specs.declared.event.CellEvent.{CellEvent}
use Rattle.cells.specs.declared.event.CellOp.{CellOp}
use Rattle.bpf_semantics.specs.Program.{ShapedProgram}
use Rattle.bpf_semantics.specs.State.{State}
use Rattle.bpf_semantics.specs.Outcome.{Outcome, Going, Operates, Done, Trap}
use Rattle.bpf_semantics.specs.Step.{step}
use Rattle.bpf_semantics.specs.Run.{Ends, last, more, operated, Traps, now, later, replied}

-- ---- outcomes

-- both steps have the same outcome, in related states
abbrev pub Matches : (State → State → Type 0) → Outcome → Outcome → Type 0
Matches R (Going t) (Going t') = R t t'
Matches R (Operates c op next) (Operates c' op' next') =
    (c ≡ c') × (op ≡ op') × ((r : ℕ) → R (next r) (next' r))
Matches R (Done n) (Done n') = n ≡ n'
Matches R Trap Trap = Unit {0}
Matches R o o' = ⊥

-- one continues, and the other stays
abbrev pub GoesAlone : (State → State → Type 0) → Outcome → State → Type 0
GoesAlone R (Going t) x = R t x
GoesAlone R o x = ⊥

-- the converse relation
abbrev pub Turned : (State → State → Type 0) → State → State → Type 0
Turned R t t' = R t' t

module _ (R : State → State → Type 0) where
  pub matches_turned : (o o' : Outcome) → Matches R o o' → Matches (Turned R) o' o
  matches_turned (Going t) (Going t') same = same
  matches_turned (Operates c op next) (Operates c' op' next') same =
      (sym same.0, sym same.1, same.2)
  matches_turned (Done n) (Done n') same = sym same
  matches_turned Trap Trap same = tt
  matches_turned o o' same = absurd same

  done_is : (n : ℕ) (o : Outcome) → Matches R (Done n) o → o ≡ Done n
  done_is n (Done n') same = ap Done (sym same)
  done_is n o same = absurd same

  trap_is : (o : Outcome) → Matches R Trap o → o ≡ Trap
  trap_is Trap same = refl
  trap_is o same = absurd same

  going_is : (t : State) (o : Outcome) → Matches R (Going t) o
      → (t' : State) × (o ≡ Going t') × R t t'
  going_is t (Going t') same = (t', refl, same)
  going_is t o same = absurd same

  asks_is : (c : ℕ) (op : CellOp) (next : ℕ → State) (o : Outcome)
      → Matches R (Operates c op next) o
      → (next' : ℕ → State) × (o ≡ Operates c op next') × ((r : ℕ) → R (next r) (next' r))
  asks_is c op next (Operates c' op' next') same = (
    next',
    ap (λ x. Operates x op' next') (sym same.0) ∙ ap (λ x. Operates c x next') (sym same.1),
    same.2,
  )
  asks_is c op next o same = absurd same

-- ---- runs

-- steps without a counter operation lead from one state to the other
pub data Passes (p : ShapedProgram) : State → State → Type 0 where
  stays : {s : State} → Passes p s s
  passed : {s t x : State} → step p s ≡ Going t → Passes p t x → Passes p s x

abbrev pub SomeEnd : ShapedProgram → State → List CellEvent → ℕ → Type 0
SomeEnd p s es choice = (count : ℕ) × Ends p s es choice count

abbrev pub SomeTrap : ShapedProgram → State → List CellEvent → Type 0
SomeTrap p s es = (count : ℕ) × Traps p s es count

end_behind : {p : ShapedProgram} {s x : State} (es : List CellEvent) (choice : ℕ) → Passes p s x
    → SomeEnd p x es choice → SomeEnd p s es choice
end_behind es choice stays r = r
end_behind es choice (passed e rest) r =
    let t = end_behind es choice rest r in (t.0, more e t.1)

trap_behind : {p : ShapedProgram} {s x : State} (es : List CellEvent) → Passes p s x
    → SomeTrap p x es → SomeTrap p s es
trap_behind es stays r = r
trap_behind es (passed e rest) r = let t = trap_behind es rest r in (t.0, later e t.1)

module _ (p q : ShapedProgram) (R : State → State → Type 0) where
  -- from there the first program's step is the second's, or is taken on its own
  abbrev pub Keeps : Outcome → State → Type 0
  Keeps o x = GoesAlone R o x ⊎ Matches R o (step q x)

  -- the second program's steps lead to such a state
  abbrev pub KeepsUp : State → State → Type 0
  KeepsUp s s' = (x : State) × Passes q s' x × Keeps (step p s) x

  module _ (keeps : (s s' : State) → R s s' → KeepsUp s s') where
    pub ends_so : {s : State} {es : List CellEvent} {choice count : ℕ} → Ends p s es choice count
        → (s' : State) → R s s' → SomeEnd q s' es choice
    ends_so {s} {choice} (last e is) s' related =
        let k = keeps s s' related in
        end_behind [] choice k.1 (elim (subst (λ o. Keeps o k.0) e k.2) [
          | inl a ↦ absurd a
          | inr a ↦ (k.0.count + 1, last (done_is R choice (step q k.0) a) refl)
        ])
    ends_so {s} {es} {choice} (more {t} e r) s' related =
        let k = keeps s s' related in
        end_behind es choice k.1 (elim (subst (λ o. Keeps o k.0) e k.2) [
          | inl a ↦ ends_so r k.0 a
          | inr a ↦ let m = going_is R t (step q k.0) a in
              let rest = ends_so r m.0 m.2 in (rest.0, more m.1 rest.1)
        ])
    ends_so {s} {choice} (operated {next} {e = d} {es} e r) s' related =
        let k = keeps s s' related in
        end_behind (d ∷ es) choice k.1 (elim (subst (λ o. Keeps o k.0) e k.2) [
          | inl a ↦ absurd a
          | inr a ↦ let m = asks_is R d.cell d.op next (step q k.0) a in
              let rest = ends_so r (m.0 d.reply) (m.2 d.reply) in (rest.0, operated m.1 rest.1)
        ])

    pub traps_so : {s : State} {es : List CellEvent} {count : ℕ} → Traps p s es count
        → (s' : State) → R s s' → SomeTrap q s' es
    traps_so {s} (now e is) s' related =
        let k = keeps s s' related in
        trap_behind [] k.1 (elim (subst (λ o. Keeps o k.0) e k.2) [
          | inl a ↦ absurd a
          | inr a ↦ (k.0.count, now (trap_is R (step q k.0) a) refl)
        ])
    traps_so {s} {es} (later {t} e r) s' related =
        let k = keeps s s' related in
        trap_behind es k.1 (elim (subst (λ o. Keeps o k.0) e k.2) [
          | inl a ↦ traps_so r k.0 a
          | inr a ↦ let m = going_is R t (step q k.0) a in
              let rest = traps_so r m.0 m.2 in (rest.0, later m.1 rest.1)
        ])
    traps_so {s} (replied {next} {e = d} {es} e r) s' related =
        let k = keeps s s' related in
        trap_behind (d ∷ es) k.1 (elim (subst (λ o. Keeps o k.0) e k.2) [
          | inl a ↦ absurd a
          | inr a ↦ let m = asks_is R d.cell d.op next (step q k.0) a in
              let rest = traps_so r (m.0 d.reply) (m.2 d.reply) in (rest.0, replied m.1 rest.1)
        ])
