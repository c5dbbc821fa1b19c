-- The events of a history, in another order, are the passes' lists one after the other.
use Rattle.std.proofs.Common.{◌≡◌, ◌≢◌, ℕ, zero, suc, ◌<◌, Bool, true, false}
use Rattle.std.proofs.Common.{List, [], ◌∷◌, ◌++◌, length, get_or, set, refl, sym, ap}
use Rattle.std.proofs.Common.{◌∙◌, subst, arith, get_or-set_same, get_or-set_other}
use Rattle.std.specs.Prelude.{◌==◌, if◌then◌else◌, flat_map}
use Rattle.std.specs.List.Sorted.{IsPermutation}
use Rattle.std.proofs.lemmas.Bool.Decides.{nat_tests}
use Rattle.std.proofs.lemmas.List.Sorted.{IsPermutation-refl, IsPermutation-sym}
use Rattle.std.proofs.lemmas.List.Sorted.{IsPermutation-trans, IsPermutation-cons}
use Rattle.std.proofs.lemmas.List.Sorted.{IsPermutation-append_right, IsPermutation-middle}
use mathlib.Core.Logic.{dite}
use native.Mathlib.Decide.{ℕ_discrete}
use Rattle.cells.specs.declared.event.CellEvent.{CellEvent}
use Rattle.shared_cells.specs.History.{Entry, all_events, events_by}
use Rattle.shared_cells.specs.Passes.{PassView, lists_of, events_made}

abbrev joined : List (List CellEvent) → List CellEvent
joined lists = flat_map (λ (l : List CellEvent). l) lists

-- the first event of one list goes before all
pulled : (lists : List (List CellEvent)) (p : ℕ) (e : CellEvent) (rest : List CellEvent)
    → get_or lists p [] ≡ e ∷ rest → IsPermutation (e ∷ joined (set lists p rest)) (joined lists)
pulled [] p e rest is = absurd (cc)
pulled (l ∷ lists) zero e rest is =
    subst (λ (k : List CellEvent). IsPermutation (e ∷ (rest ++ joined lists)) (k ++ joined lists))
    (sym is)
    (IsPermutation-refl (e ∷ (rest ++ joined lists)))
pulled (l ∷ lists) (suc p) e rest is =
    IsPermutation-trans (e ∷ (l ++ joined (set lists p rest))) (l ++ e ∷ joined (set lists p rest))
    (l ++ joined lists)
    (IsPermutation-sym (l ++ e ∷ joined (set lists p rest)) (e ∷ (l ++ joined (set lists p rest)))
    (IsPermutation-middle l e (joined (set lists p rest))))
    (IsPermutation-append_right l (e ∷ joined (set lists p rest)) (joined lists)
    (pulled lists p e rest is))

in_range : {A : Type 0} (lists : List (List A)) (p : ℕ) (e : A) (rest : List A)
    → get_or lists p [] ≡ e ∷ rest → p < length lists
in_range [] p e rest is = absurd (cc)
in_range (l ∷ lists) zero e rest is = omega arith
in_range (l ∷ lists) (suc p) e rest is = let h = in_range lists p e rest is in omega arith

all_empty : (lists : List (List CellEvent))
    → ((p : ℕ) → [] ≡ get_or lists p []) → [] ≡ joined lists
all_empty [] none = refl
all_empty (l ∷ lists) none =
    all_empty lists (λ p. none (suc p)) ∙ ap (λ (k : List CellEvent). k ++ joined lists) (none 0)

taken : (p : ℕ) (x : CellEvent) (es : List CellEvent) → (if p == p then x ∷ es else es) ≡ x ∷ es
taken p x es = ap (λ (b : Bool). if b then x ∷ es else es) (same p)
  where
    same : (a : ℕ) → (a == a) ≡ true
    same a = grind (arith, nat_tests)

left : (p q : ℕ) (x : CellEvent) (es : List CellEvent) → q ≢ p
    → (if p == q then x ∷ es else es) ≡ es
left p q x es ne = ap (λ (b : Bool). if b then x ∷ es else es) (differ p q ne)
  where
    differ : (a b : ℕ) → b ≢ a → (a == b) ≡ false
    differ a b ne = grind (arith, nat_tests)

shuffled : (history : List Entry) (lists : List (List CellEvent))
    → ((p : ℕ) → events_by p history ≡ get_or lists p [])
    → IsPermutation (all_events history) (joined lists)
shuffled [] lists own = subst (λ (l : List CellEvent). IsPermutation [] l) (all_empty lists own)
    (IsPermutation-refl [])
shuffled (x ∷ history) lists own =
    let p = x.pass in
    let rest = events_by p history in
    let is : get_or lists p [] ≡ x.event ∷ rest = sym (own p) ∙ taken p x.event rest in
    let less = set lists p rest in
    let others : (q : ℕ) → events_by q history ≡ get_or less q [] = λ q.
    dite (ℕ_discrete q p)
    (λ (same : q ≡ p).
    let P : ℕ → Type 0 = λ (k : ℕ). events_by k history ≡ get_or less k [] in
    subst P (sym same) (sym (get_or-set_same lists p rest [] (in_range lists p x.event rest is))))
    (λ (ne : q ≢ p). sym (left p q x.event (events_by q history) ne) ∙ own q
    ∙ sym (get_or-set_other lists p q rest [] ne)) in
    IsPermutation-trans (x.event ∷ all_events history) (x.event ∷ joined less) (joined lists)
    (IsPermutation-cons x.event (all_events history) (joined less) (shuffled history less others))
    (pulled lists p x.event rest is)

joined_lists : (passes : List PassView)
    → joined (lists_of passes) ≡ events_made passes
joined_lists [] = refl
joined_lists (x ∷ passes) = ap (λ (l : List CellEvent). x.events ++ l) (joined_lists passes)

pub passes_shuffled : (history : List Entry) (passes : List PassView)
    → ((p : ℕ) → events_by p history ≡ get_or (lists_of passes) p [])
    → IsPermutation (all_events history) (events_made passes)
passes_shuffled history passes own =
    subst (IsPermutation (all_events history)) (joined_lists passes)
    (shuffled history (lists_of passes) own)
