-- Replies fit their cells.
use Rattle.std.proofs.Common.{List, ℕ, [], ◌∷◌}
use Rattle.std.specs.Prelude.{All}
use Rattle.std.proofs.lemmas.List.Elements.{All-cons, All-nil}
use Rattle.cells.specs.declared.event.CellEvent.{CellEvent}
use Rattle.cells.specs.Events.{AreCells, IsEvent}
use Rattle.cells.specs.Grown.{GrewBy}
use Rattle.cells.specs.Widths.{EventsFit}
use Rattle.bpf_verify.specs.Covers.{HasPossibleReply}

pub all_fit : EventsFit → (old : List ℕ) (events : List CellEvent) (new : List ℕ) → AreCells old
    → GrewBy IsEvent old events new → All HasPossibleReply events
all_fit fit old [] new cells grew = All-nil HasPossibleReply
all_fit fit old (e ∷ events) new cells (m, is, rest) =
    let one = fit old m e cells is in
    All-cons HasPossibleReply e events one.reply (all_fit fit m events new one.cells rest)
