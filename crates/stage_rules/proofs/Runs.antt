-- A run without an event on counters is the only one.
use Rattle.std.proofs.Common.{◌≡◌, ℕ, List, [], ap, refl, sym, ◌∙◌, subst}
use Rattle.bpf_insn.specs.Program.{Program}
use Rattle.bpf_semantics.specs.Outcome.{Outcome, Going, Operates, Done, Trap}
use Rattle.bpf_semantics.specs.Program.{ShapedProgram}
use Rattle.bpf_semantics.specs.Run.{AlwaysEnds, Ends, last, more, operated}
use Rattle.bpf_semantics.specs.State.{State}
use Rattle.cells.specs.declared.event.CellEvent.{CellEvent}
use Rattle.stage_rules.specs.Halts.{ChoosesNone}

abbrev choice_of : Outcome → ℕ
choice_of (Done choice) = choice
choice_of outcome = 0

abbrev state_of : State → Outcome → State
state_of s (Going t) = t
state_of s outcome = s

-- the kind of an outcome: two outcomes of one step have one kind
data Kind : Type 0 where
  goes : Kind
  operates : Kind
  ends : Kind
  traps : Kind

abbrev kind_of : Outcome → Kind
kind_of (Going t) = goes
kind_of (Operates cell op next) = operates
kind_of (Done choice) = ends
kind_of Trap = traps

differs : {A : Type 0} (o p q : Outcome) → o ≡ p → o ≡ q → (kind_of p ≡ kind_of q → A) → A
differs o p q e e' f = f (ap kind_of (sym e ∙ e'))

only_end : {p : ShapedProgram} {s : State} {es : List CellEvent} {choice count : ℕ}
    (es' : List CellEvent) (choice' count' : ℕ) → es ≡ []
    → Ends p s es choice count → Ends p s es' choice' count'
    → (es' ≡ []) × (choice' ≡ choice)
only_end es' choice' count' none (last e q) (last e' q') = (refl, ap choice_of (sym e' ∙ e))
only_end es' choice' count' none (last e q) (more e' r') = differs _ _ _ e e' (λ k. absurd cc)
only_end es' choice' count' none (last e q) (operated e' r') = differs _ _ _ e e' (λ k. absurd cc)
only_end es' choice' count' none (more e r) (last e' q') = differs _ _ _ e e' (λ k. absurd cc)
only_end {p} {s} es' choice' count' none (more e r) (more e' r') =
    only_end es' choice' count' none r
    (subst (λ u. Ends p u es' choice' count') (ap (state_of s) (sym e' ∙ e)) r')
only_end es' choice' count' none (more e r) (operated e' r') = differs _ _ _ e e' (λ k. absurd cc)
only_end es' choice' count' none (operated e r) r' = absurd cc

pub chooses_none : (code : Program) (count : ℕ) → AlwaysEnds code 0 count → ChoosesNone code
chooses_none code count run = record {
  count = count;
  ends = run;
  only = λ a shape es choice steps r.
      only_end es choice steps refl (run a shape) r;
}
