use Rattle.std.proofs.Common.{◌<◌, sym, ap, ◌∙◌, arith}
use Rattle.atomic_table.specs.Seated.{TableId}
use Rattle.ceilings.proofs.Steps.{raises}
use Rattle.ceilings.specs.Seats.{SeatView}
use Rattle.ceilings.proofs.ceilings.Ceilings.raise.Goals as goal

pub store-requires : goal.store-requires
store-requires c =
    let words = ap (λ (t : TableId). t.words) c.self.view_is in
    let less : c.args.cell < c.self.inside.table.shared.key =
    omega (arith, c.requires.cell, words, c.self.invariant.0) in (
      ap (λ (p : SeatView). p.table) c.writer.view_is ∙ c.requires.own ∙ sym c.self.view_is,
      omega (arith, c.requires.cell, words),
      raises c.self.inside.table.shared.key c.self.inside.table.shared.table_id.slots
          c.writer.inside.seat.id c.writer.inside.seat.me c.args.cell c.args.number less
          c.writer.invariant.0,
    )
