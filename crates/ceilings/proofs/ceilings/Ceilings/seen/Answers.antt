use Rattle.std.proofs.Common.{sym, ap, ◌∙◌, arith}
use Rattle.atomic_table.specs.Table.{Me}
use Rattle.ceilings.proofs.Readers.{compares, joins}
use Rattle.ceilings.specs.Seats.{SeatView}
use Rattle.ceilings.specs.declared.rule.Known.{Known}
use Rattle.ceilings.proofs.ceilings.Ceilings.seen.Goals as goal

pub join_seat-requires : goal.join_seat-requires
join_seat-requires c = (
  ap (λ (p : SeatView). p.table) c.writer.view_is ∙ c.requires.writer ∙ sym c.self.view_is,
  ap (λ (p : SeatView). p.table) c.reader.view_is ∙ c.requires.reader ∙ sym c.self.view_is,
  c.reader.invariant,
  omega (arith, c.self.invariant.0, c.self.invariant.2),
  joins c.self.inside.table.shared.key c.writer.inside.seat.id c.reader.inside.seat.id
      c.writer.inside.seat.me.0 c.reader.inside.seat.me.0,
)

pub load-found-requires : goal.load-found-requires
load-found-requires c = (
  c.join_seat.ensures.0 ∙ ap (λ (p : SeatView). p.table) c.writer.view_is ∙ c.requires.writer
      ∙ sym c.self.view_is,
  omega (arith, c.self.invariant.0, c.self.invariant.2),
  compares c.self.inside.table.shared.key c.self.inside.table.shared.table_id.slots
      c.join_seat.new.seat.id c.join_seat.new.seat.me 0 c.self.invariant.2
      (ap (λ (m : Me (Unit {0}) Known). m.0.is_writer) c.join_seat.ensures.2
      ∙ c.writer.invariant.0),
)
