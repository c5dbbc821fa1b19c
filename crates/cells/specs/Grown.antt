-- How a pass (a ghost token) grows by a list of events, one after the other. How it grows by one
-- event is given, as a relation of the pass before, the event, and the pass after.
use Rattle.std.specs.Prelude.{◌≡◌, List, [], ◌∷◌, ◌++◌}
use Rattle.cells.specs.declared.event.CellEvent.{CellEvent}

module _ {P : Type 0} (grew : P → CellEvent → P → Type 0) where
  -- a pass grew by a list of events, one after the other
  abbrev pub GrewBy : P → List CellEvent → P → Type 0
  GrewBy p [] q = q ≡ p
  GrewBy p (e ∷ es) q = (m : P) × grew p e m × GrewBy m es q

  -- a pass that grows by a list and then by one event grows by the list with that event at its end
  abbrev pub GrowsBySnoc : Type 0
  GrowsBySnoc = (p : P) (es : List CellEvent) (m : P) (e : CellEvent) (q : P)
      → GrewBy p es m → grew m e q → GrewBy p (es ++ e ∷ []) q

  -- a pass that grows by one list and then by another grows by both as one list
  abbrev pub GrowsByAppend : Type 0
  GrowsByAppend = (p : P) (es : List CellEvent) (m : P) (ds : List CellEvent) (q : P)
      → GrewBy p es m → GrewBy m ds q → GrewBy p (es ++ ds) q

  -- the pass grew by events that satisfy `Of`
  pub record Grows (before after : P) (Of : List CellEvent → Type 0) : Type 0 where
    pub events : List CellEvent
    pub grown : GrewBy before events after
    pub of : Of events
