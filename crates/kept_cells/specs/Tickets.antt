-- Tickets, and which of them are covered by ceilings that were raised.
use Rattle.std.specs.Prelude.{◌≡◌, ℕ, ◌<◌, ◌≤◌, ◌^◌, ◌+◌, ◌-◌, nat_lt, Bool, ◌&&◌, IsTrue}
use Rattle.std.specs.Prelude.{List, All, length, Option, Some, None}
use Rattle.atomic_table.specs.Seated.{TableId}
use Rattle.cells.specs.declared.event.CellEvent.{CellEvent}
use Rattle.ceilings.specs.declared.rule.Raised.{Raised}
use Rattle.ceilings.specs.Rule.{raised_in}
use Rattle.ceilings.specs.Seats.{IsAt, SeatView}
use Rattle.shared_cells.specs.Passes.{PassView}
use Rattle.shared_cells.specs.Quotas.{adds_one}

-- an addition of 1 to a 64-bit cell, whose reply may be a place of a quota: quotas are below 2^63
abbrev pub is_ticket : CellEvent → Bool
is_ticket e = nat_lt e.cell 4096 && adds_one e.op && nat_lt e.reply (2 ^ 63)

-- The words of the 64-bit cells' ceilings are followed by one for each cell's limit, from which on
-- no addition gets a place. It has how far 2^64 - 1 is above the limit: so it only rises.
abbrev pub limit_word : (cell : ℕ) → ℕ
limit_word cell = 4096 + cell

-- a number is at least the cell's limit
abbrev pub IsPast : List Raised → (cell number : ℕ) → Type 0
IsPast raised cell number = 2 ^ 64 - 1 ≤ number + raised_in (limit_word cell) raised

-- a ticket of which the cell's ceiling isn't above is past the cell's limit
abbrev pub IsCovered : List Raised → CellEvent → Type 0
IsCovered raised e = raised_in e.cell raised ≤ e.reply → IsPast raised e.cell e.reply

abbrev pub AreCovered : List Raised → List CellEvent → Type 0
AreCovered raised = All (λ e. IsTrue (is_ticket e) → IsCovered raised e)

-- the receipt is a reader of these ceilings, which knows that
abbrev pub ShowsCovered : (ceilings : TableId) → Option SeatView → List CellEvent → Type 0
ShowsCovered ceilings (Some reader) events =
    IsAt ceilings reader × AreCovered reader.raised events
ShowsCovered ceilings None events = ⊥

-- a mark is how many events the pass had; 2^64 - 1 is none
abbrev pub IsMark : ℕ → PassView → Type 0
IsMark mark pass = mark < 2 ^ 64 - 1 → mark ≡ length pass.events
