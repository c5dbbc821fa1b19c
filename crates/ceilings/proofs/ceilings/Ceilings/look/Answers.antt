use Rattle.std.proofs.Common.{◌<◌, sym, ap, ◌∙◌, arith}
use Rattle.atomic_table.specs.Seated.{TableId}
use Rattle.ceilings.proofs.Steps.{looks}
use Rattle.ceilings.specs.Seats.{SeatView}
use Rattle.ceilings.proofs.ceilings.Ceilings.look.Goals as goal

pub load-requires : goal.load-requires
load-requires c =
    let words = ap (λ (t : TableId). t.words) c.self.view_is in
    let less : c.args.cell < c.self.inside.table.shared.key =
    omega (arith, c.requires.cell, words, c.self.invariant.0) in (
      ap (λ (p : SeatView). p.table) c.reader.view_is ∙ c.requires.own ∙ sym c.self.view_is,
      omega (arith, c.requires.cell, words),
      looks c.self.inside.table.shared.key c.self.inside.table.shared.table_id.slots
          c.reader.inside.seat.id c.reader.inside.seat.me c.args.cell less,
    )
