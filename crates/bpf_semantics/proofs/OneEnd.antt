-- A run has one end on given replies, and a run that ends doesn't trap: a step has one outcome.
use Rattle.std.proofs.Common.{◌≡◌, ℕ, List, [], ◌∷◌, refl, ap, sym, ◌∙◌, subst}
use Rattle.cells.specs.declared.event.CellOp.{CellOp}
use Rattle.cells.specs.declared.event.CellEvent.{CellEvent}
use Rattle.cells.specs.Events.{event}
use Rattle.bpf_semantics.specs.Program.{ShapedProgram}
use Rattle.bpf_semantics.specs.State.{State}
use Rattle.bpf_semantics.specs.Outcome.{Outcome, Going, Operates, Done, Trap}
use Rattle.bpf_semantics.specs.Run.{Ends, last, more, operated, Traps, now}
use Rattle.bpf_semantics.specs.Run.{later, replied, replies, IsSameEnd}

abbrev choice_of : Outcome → ℕ
choice_of (Done choice) = choice
choice_of outcome = 0

abbrev state_of : State → Outcome → State
state_of s (Going t) = t
state_of s outcome = s

abbrev cell_of : Outcome → ℕ
cell_of (Operates cell op next) = cell
cell_of outcome = 0

abbrev op_of : CellOp → Outcome → CellOp
op_of other (Operates cell op next) = op
op_of other outcome = other

abbrev next_of : (ℕ → State) → Outcome → ℕ → State
next_of other (Operates cell op next) = next
next_of other outcome = other

abbrev head_of : List ℕ → ℕ
head_of [] = 0
head_of (x ∷ xs) = x

abbrev tail_of : List ℕ → List ℕ
tail_of [] = []
tail_of (x ∷ xs) = xs

-- the kind of an outcome: two outcomes of one step have one kind
data Kind : Type 0 where
  goes : Kind
  operates : Kind
  ends : Kind
  traps : Kind

abbrev kind_of : Outcome → Kind
kind_of (Going t) = goes
kind_of (Operates cell op next) = operates
kind_of (Done choice) = ends
kind_of Trap = traps

differs : {A : Type 0} (o p q : Outcome) → o ≡ p → o ≡ q → (kind_of p ≡ kind_of q → A) → A
differs o p q e e' f = f (ap kind_of (sym e ∙ e'))

events_are : {e e' : CellEvent} {es es' : List CellEvent} → e.cell ≡ e'.cell → e.op ≡ e'.op
    → e.reply ≡ e'.reply → es ≡ es' → e ∷ es ≡ e' ∷ es'
events_are {e} {e'} {es} {es'} cell op reply rest =
    ap (λ c. event c e.op e.reply ∷ es) cell ∙ ap (λ o. event e'.cell o e.reply ∷ es) op
    ∙ ap (λ r. event e'.cell e'.op r ∷ es) reply ∙ ap (λ rest. e' ∷ rest) rest

pub one_end : {p : ShapedProgram} {s : State} {es : List CellEvent} {choice count : ℕ}
    (es' : List CellEvent) (choice' count' : ℕ) → replies es ≡ replies es'
    → Ends p s es choice count → Ends p s es' choice' count'
    → IsSameEnd es es' choice choice' count count'
one_end es' choice' count' same (last e q) (last e' q') =
    record { same_events = refl; same_choice = ap choice_of (sym e ∙ e'); same_count = q ∙ sym q' }
one_end es' choice' count' same (last e q) (more e' r') = differs _ _ _ e e' (λ k. absurd cc)
one_end es' choice' count' same (last e q) (operated e' r') = absurd cc
one_end es' choice' count' same (more e r) (last e' q') = differs _ _ _ e e' (λ k. absurd cc)
one_end {p} {s} es' choice' count' same (more e r) (more e' r') =
    one_end es' choice' count' same r
    (subst (λ u. Ends p u es' choice' count') (ap (state_of s) (sym e' ∙ e)) r')
one_end es' choice' count' same (more e r) (operated e' r') = differs _ _ _ e e' (λ k. absurd cc)
one_end es' choice' count' same (operated e r) (last e' q') = absurd cc
one_end es' choice' count' same (operated e r) (more e' r') = differs _ _ _ e e' (λ k. absurd cc)
one_end {p} {s} _ choice' count' same (operated {next} {e = d} {es} e r)
    (operated {next = next'} {e = d'}
    {es = es'} e' r') =
    let reply : d.reply ≡ d'.reply = ap head_of same in
    let after : next' d'.reply ≡ next d.reply =
    ap (λ o. next_of next o d'.reply) (sym e' ∙ e) ∙ ap next (sym reply) in
    let rest = one_end es' choice' count' (ap tail_of same) r
    (subst (λ u. Ends p u es' choice' count') after r') in
    record {
      same_events = events_are (ap cell_of (sym e ∙ e'))
          (ap (op_of d.op) (sym e ∙ e')) reply rest.same_events;
      same_choice = rest.same_choice;
      same_count = rest.same_count;
    }

pub no_trap : {p : ShapedProgram} {s : State} {es : List CellEvent} {choice count : ℕ}
    (es' : List CellEvent) (count' : ℕ) → replies es ≡ replies es'
    → Ends p s es choice count → Traps p s es' count' → ⊥
no_trap es' count' same (last e q) (now e' q') = differs _ _ _ e e' (λ k. absurd cc)
no_trap es' count' same (last e q) (later e' r') = differs _ _ _ e e' (λ k. absurd cc)
no_trap es' count' same (last e q) (replied e' r') = absurd cc
no_trap es' count' same (more e r) (now e' q') = differs _ _ _ e e' (λ k. absurd cc)
no_trap {p} {s} es' count' same (more e r) (later e' r') =
    no_trap es' count' same r (subst (λ u. Traps p u es' count') (ap (state_of s) (sym e' ∙ e)) r')
no_trap es' count' same (more e r) (replied e' r') = differs _ _ _ e e' (λ k. absurd cc)
no_trap es' count' same (operated e r) (now e' q') = absurd cc
no_trap es' count' same (operated e r) (later e' r') = differs _ _ _ e e' (λ k. absurd cc)
no_trap {p} {s} _ count' same (operated {next} {e = d} {es} e r) (replied {next = next'} {e = d'}
    {es = es'} e' r') =
    let reply : d.reply ≡ d'.reply = ap head_of same in
    let after : next' d'.reply ≡ next d.reply =
    ap (λ o. next_of next o d'.reply) (sym e' ∙ e) ∙ ap next (sym reply) in
    no_trap es' count' (ap tail_of same) r (subst (λ u. Traps p u es' count') after r')
