-- An event leaves values within their cells' widths, and has a reply that fits.
use Rattle.std.specs.Prelude.{List, ℕ}
use Rattle.cells.specs.declared.event.CellEvent.{CellEvent}
use Rattle.cells.specs.Events.{AreCells, CanReply, IsEvent}

-- each cell's value after an event is within its width, and the reply fits the event's cell
pub record FitsWidths (e : CellEvent) (new : List ℕ) : Type 0 where
  pub cells : AreCells new
  pub reply : CanReply e.cell e.op e.reply

abbrev pub EventsFit : Type 0
EventsFit = (old new : List ℕ) (e : CellEvent) → AreCells old → IsEvent old e new → FitsWidths e new
