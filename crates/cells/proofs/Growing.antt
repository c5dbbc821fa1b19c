-- Passes that grow by lists of events.
use Rattle.std.proofs.Common.{[], ◌∷◌, subst, refl}
use Rattle.cells.specs.declared.event.CellEvent.{CellEvent}
use Rattle.cells.specs.Grown.{GrewBy, GrowsBySnoc, GrowsByAppend}

module _ {P : Type 0} (grew : P → CellEvent → P → Type 0) where
  -- one event more
  pub GrewBy-snoc : GrowsBySnoc grew
  GrewBy-snoc p [] m e q same last = (q, subst (λ (x : P). grew x e q) same last, refl)
  GrewBy-snoc p (x ∷ es) m e q h last = (h.0, h.1, GrewBy-snoc h.0 es m e q h.2 last)

  -- two lists in turn are one
  pub GrewBy-append : GrowsByAppend grew
  GrewBy-append p [] m ds q same last = subst (λ (x : P). GrewBy grew x ds q) same last
  GrewBy-append p (x ∷ es) m ds q h last = (h.0, h.1, GrewBy-append h.0 es m ds q h.2 last)
