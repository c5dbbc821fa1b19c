-- Quotas. To take one of a limited number of places, a thread adds 1 to a cell, and has a place if
-- the reply is below the quota.
use Rattle.std.specs.Prelude.{◌≡◌, ℕ, ◌+◌, ◌<◌, ◌^◌, ◌==◌, nat_lt, min, Bool, false, ◌&&◌}
use Rattle.std.specs.Prelude.{List, All, slice_index, count_by}
use Rattle.cells.specs.declared.event.CellOp.{CellOp}
use Rattle.cells.specs.declared.event.CellOp.TheVariants.{Load, Add}
use Rattle.cells.specs.declared.event.CellEvent.{CellEvent}
use Rattle.shared_cells.specs.Passes.{PassView, events_made}

abbrev pub adds_one : CellOp → Bool
adds_one (Add number) = number == 1
adds_one _ = false

-- how many events of a list add 1 to the cell
abbrev pub add_count : ℕ → List CellEvent → ℕ
add_count cell = count_by (λ e. e.cell == cell && adds_one e.op)

-- how many of them take a place: their reply is below the quota
abbrev pub yes_count : ℕ → ℕ → List CellEvent → ℕ
yes_count cell quota = count_by (λ e. e.cell == cell && adds_one e.op && nat_lt e.reply quota)

-- the operation is Load or Add(1)
abbrev pub OnlyCounts : CellOp → Type 0
OnlyCounts Load = Unit {0}
OnlyCounts (Add number) = number ≡ 1
OnlyCounts _ = ⊥

-- nothing else is done to the cell, which is 64 bits wide and doesn't overflow
pub record IsCounter (cell opening : ℕ) (made : List CellEvent) : Type 0 where
  pub wide : cell < 4096
  pub counts : All (λ e. e.cell ≡ cell → OnlyCounts e.op) made
  pub adds_fit : opening + add_count cell made < 2 ^ 64

-- the value is the number of Adds, of which as many as the quota allows take a place
pub record CountsExactly (cell opening value : ℕ) (made : List CellEvent) : Type 0 where
  pub value_is : value ≡ opening + add_count cell made
  pub yes_is : (quota : ℕ) → yes_count cell quota made + min quota opening
      ≡ min quota (opening + add_count cell made)

-- this is true of each counter, over all that the passes made
abbrev pub QuotasAreExact : List ℕ → List PassView → List ℕ → Type 0
QuotasAreExact opening passes values =
    (cell : ℕ) → IsCounter cell (slice_index opening cell) (events_made passes)
    → CountsExactly cell (slice_index opening cell) (slice_index values cell) (events_made passes)
