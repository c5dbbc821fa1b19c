-- Histories with one event more.
use Rattle.std.proofs.Common.{◌≡◌, ◌≢◌, ℕ, Bool, true, false}
use Rattle.std.proofs.Common.{List, [], ◌∷◌, ◌++◌, refl, sym, ap, subst, arith}
use Rattle.std.specs.Prelude.{if◌then◌else◌, ◌==◌}
use Rattle.std.proofs.lemmas.Bool.Decides.{nat_tests}
use Rattle.cells.specs.declared.event.CellEvent.{CellEvent}
use Rattle.cells.specs.Events.{IsEvent}
use Rattle.cells.specs.Grown.{GrewBy}
use Rattle.shared_cells.specs.History.{Entry, all_events, events_by, IsLegal}

abbrev pub by_pass : ℕ → CellEvent → Entry
by_pass p e = record { pass = p; event = e }

grown_more : (opening : List ℕ) (made : List CellEvent) (values : List ℕ) (e : CellEvent)
    (new : List ℕ)
    → GrewBy IsEvent opening made values → IsEvent values e new
    → GrewBy IsEvent opening (made ++ e ∷ []) new
grown_more opening [] values e new same last =
    (new, subst (λ (v : List ℕ). IsEvent v e new) same last, refl)
grown_more opening (x ∷ made) values e new h last =
    (h.0, h.1, grown_more h.0 made values e new h.2 last)

events_more : (history : List Entry) (x : Entry)
    → all_events (history ++ x ∷ []) ≡ all_events history ++ x.event ∷ []
events_more [] x = refl
events_more (y ∷ history) x = ap (λ (es : List CellEvent). y.event ∷ es) (events_more history x)

-- a legal history and one event on the values after it
pub legal_more : (o : List ℕ) (history : List Entry) (x : Entry) (values new : List ℕ)
    → IsLegal o (all_events history) values → IsEvent values x.event new
    → IsLegal o (all_events (history ++ x ∷ [])) new
legal_more o history x values new legal last = record {
  cells = legal.cells;
  grown =
      subst (λ (es : List CellEvent). GrewBy IsEvent o es new)
      (sym (events_more history x))
      (grown_more o (all_events history) values x.event new legal.grown last);
}

more_if : (b : Bool) (x e : CellEvent) (old new : List CellEvent) → new ≡ old ++ e ∷ []
    → (if b then x ∷ new else new) ≡ (if b then x ∷ old else old) ++ e ∷ []
more_if true x e old new is = ap (λ (es : List CellEvent). x ∷ es) is
more_if false x e old new is = is

pub own_more : (p : ℕ) (history : List Entry) (e : CellEvent)
    → events_by p (history ++ by_pass p e ∷ []) ≡ events_by p history ++ e ∷ []
own_more p [] e = grind (arith, nat_tests)
own_more p (y ∷ history) e =
    more_if (y.pass == p) y.event e (events_by p history)
    (events_by p (history ++ by_pass p e ∷ []))
    (own_more p history e)

pub others_stay : (q p : ℕ) (history : List Entry) (e : CellEvent) → p ≢ q
    → events_by q (history ++ by_pass p e ∷ []) ≡ events_by q history
others_stay q p [] e ne = grind (arith, nat_tests)
others_stay q p (y ∷ history) e ne =
    ap (λ (es : List CellEvent). if y.pass == q then y.event ∷ es else es)
    (others_stay q p history e ne)
