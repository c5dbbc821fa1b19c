-- A history without the Loads of one pass.
use Rattle.std.specs.Prelude.{ℕ, Bool, true, false, not, ◌&&◌, ◌==◌, ◌≡◌, ◌≢◌, List, filter}
use Rattle.cells.specs.declared.event.CellOp.{CellOp}
use Rattle.cells.specs.declared.event.CellOp.TheVariants.{Load}
use Rattle.shared_cells.specs.History.{Entry, all_events, events_by, IsLegal}

abbrev pub is_load : CellOp → Bool
is_load Load = true
is_load _ = false

-- the history without the Loads of one pass
abbrev pub without_loads : ℕ → List Entry → List Entry
without_loads p = filter (λ x. not (x.pass == p && is_load x.event.op))

-- it is as legal as the whole, and leaves the same values in the cells
abbrev pub LoadsCanGo : Type 0
LoadsCanGo = (p : ℕ) (history : List Entry) (opening values : List ℕ)
    → IsLegal opening (all_events history) values
    → IsLegal opening (all_events (without_loads p history)) values

-- and the other passes made the same events
abbrev pub OthersAreKept : Type 0
OthersAreKept = (p q : ℕ) (history : List Entry) → p ≢ q
    → events_by q (without_loads p history) ≡ events_by q history
