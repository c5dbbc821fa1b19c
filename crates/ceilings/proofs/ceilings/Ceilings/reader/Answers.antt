use Rattle.std.proofs.Common.{arith}
use Rattle.ceilings.proofs.Readers.{enters}
use Rattle.ceilings.proofs.ceilings.Ceilings.reader.Goals as goal

pub load_new_seat-found-requires : goal.load_new_seat-found-requires
load_new_seat-found-requires c = (
  omega (arith, c.self.invariant.0, c.self.invariant.2),
  enters c.self.inside.table.shared.key c.self.inside.table.shared.table_id.slots 0,
)
