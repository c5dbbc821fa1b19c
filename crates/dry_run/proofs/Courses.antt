-- A run on counters with given values has one course, because each counter replies with its value.
use Rattle.std.proofs.Common.{◌≡◌, ℕ, List, [], ◌∷◌, ◌++◌, refl, ap, sym, ◌∙◌, subst}
use Rattle.std.specs.Prelude.{slice_index, slice_set}
use Rattle.cells.specs.Events.{IsEvent, after, limit, reply_of}
use Rattle.cells.specs.Grown.{GrewBy}
use Rattle.cells.specs.declared.event.CellOp.{CellOp}
use Rattle.cells.specs.declared.event.CellEvent.{CellEvent}
use Rattle.bpf_semantics.specs.Program.{ShapedProgram}
use Rattle.bpf_semantics.specs.State.{State}
use Rattle.bpf_semantics.specs.Outcome.{Outcome, Going, Operates, Done, Trap}
use Rattle.bpf_semantics.specs.Run.{Ends, last, more, operated}

-- ---- events

-- a list of events, split in two
pub cut : (a b : List CellEvent) (p q : List ℕ) → GrewBy IsEvent p (a ++ b) q
    → (m : List ℕ) × GrewBy IsEvent p a m × GrewBy IsEvent m b q
cut [] b p q g = (p, refl, g)
cut (e ∷ es) b p q g =
    let rest = cut es b g.0 q g.2 in (rest.0, (g.0, g.1, rest.1), rest.2)

-- the reply of one operation on counters with given values, and the values after it
record IsSameEvent (d d' : CellEvent) (new new' : List ℕ) : Type 0 where
  pub reply : d.reply ≡ d'.reply
  pub values : new ≡ new'

-- the values after an operation
abbrev left_by : List ℕ → ℕ → CellOp → List ℕ
left_by old c o = slice_set old c (after (limit c) (slice_index old c) o)

same_event : (old new new' : List ℕ) (d d' : CellEvent) → d.cell ≡ d'.cell → d.op ≡ d'.op
    → IsEvent old d new → IsEvent old d' new' → IsSameEvent d d' new new'
same_event old new new' d d' cell op g g' = record {
  reply =
      g.reply_is ∙ ap (λ (c : ℕ). reply_of (slice_index old c) d.op) cell
      ∙ ap (λ (o : CellOp). reply_of (slice_index old d'.cell) o) op ∙ sym g'.reply_is;
  values =
      g.values_are ∙ ap (λ (c : ℕ). left_by old c d.op) cell
      ∙ ap (λ (o : CellOp). left_by old d'.cell o) op ∙ sym g'.values_are;
}

-- ---- outcomes

abbrev pub choice_of : Outcome → ℕ
choice_of (Done choice) = choice
choice_of outcome = 0

abbrev pub state_of : State → Outcome → State
state_of s (Going t) = t
state_of s outcome = s

abbrev pub cell_of : Outcome → ℕ
cell_of (Operates cell op next) = cell
cell_of outcome = 0

abbrev pub op_of : CellOp → Outcome → CellOp
op_of other (Operates cell op next) = op
op_of other outcome = other

abbrev pub next_of : (ℕ → State) → Outcome → ℕ → State
next_of other (Operates cell op next) = next
next_of other outcome = other

pub data Kind : Type 0 where
  goes : Kind
  operates : Kind
  ends : Kind
  traps : Kind

abbrev pub kind_of : Outcome → Kind
kind_of (Going t) = goes
kind_of (Operates cell op next) = operates
kind_of (Done choice) = ends
kind_of Trap = traps

pub differs : {A : Type 0} (o p q : Outcome) → o ≡ p → o ≡ q → (kind_of p ≡ kind_of q → A) → A
differs o p q e e' f = f (ap kind_of (sym e ∙ e'))

-- ---- a run

pub record IsSameCourse (choice choice' : ℕ) (new new' : List ℕ) : Type 0 where
  pub choices : choice ≡ choice'
  pub values : new ≡ new'

pub one_course : {p : ShapedProgram} {s : State} {es : List CellEvent} {choice count : ℕ}
    (es' : List CellEvent) (choice' count' : ℕ) (old new new' : List ℕ)
    → Ends p s es choice count → Ends p s es' choice' count'
    → GrewBy IsEvent old es new → GrewBy IsEvent old es' new'
    → IsSameCourse choice choice' new new'
one_course es' choice' count' old new new' (last e q) (last e' q') g g' =
    record { choices = ap choice_of (sym e ∙ e'); values = g ∙ sym g' }
one_course es' choice' count' old new new' (last e q) (more e' r') g g' =
    differs _ _ _ e e' (λ k. absurd cc)
one_course es' choice' count' old new new' (last e q) (operated e' r') g g' =
    differs _ _ _ e e' (λ k. absurd cc)
one_course es' choice' count' old new new' (more e r) (last e' q') g g' =
    differs _ _ _ e e' (λ k. absurd cc)
one_course {p} {s} es' choice' count' old new new' (more e r) (more e' r') g g' =
    one_course es' choice' count' old new new' r
    (subst (λ u. Ends p u es' choice' count') (ap (state_of s) (sym e' ∙ e)) r') g g'
one_course es' choice' count' old new new' (more e r) (operated e' r') g g' =
    differs _ _ _ e e' (λ k. absurd cc)
one_course es' choice' count' old new new' (operated e r) (last e' q') g g' =
    differs _ _ _ e e' (λ k. absurd cc)
one_course es' choice' count' old new new' (operated e r) (more e' r') g g' =
    differs _ _ _ e e' (λ k. absurd cc)
one_course {p} {s} _ choice' count' old new new' (operated {next} {e = d} {es} e r)
    (operated {next = next'} {e = d'} {es = es'} e' r') g g' =
    let both = same_event old g.0 g'.0 d d' (ap cell_of (sym e ∙ e'))
    (ap (op_of d.op) (sym e ∙ e')) g.1 g'.1 in
    let following : next' d'.reply ≡ next d.reply =
    ap (λ o. next_of next o d'.reply) (sym e' ∙ e) ∙ ap next (sym both.reply) in
    one_course es' choice' count' g.0 new new' r
    (subst (λ u. Ends p u es' choice' count') following r') g.2
    (subst (λ (m : List ℕ). GrewBy IsEvent m es' new') (sym both.values) g'.2)
