use Rattle.std.proofs.Common.{◌∙◌, sym, arith}
use Rattle.shared_cells.proofs.Looks.{enters}
use Rattle.shared_cells.proofs.shared.SharedCells.value.Goals as goal

pub load_new_seat-found-requires : goal.load_new_seat-found-requires
load_new_seat-found-requires c =
    let many = c.self.invariant.0 in
    let at = c.index-at.ensures.in_range in (
      omega (arith, many, at),
      enters c.self.inside.table.shared.key.values.value.items
          c.self.inside.table.shared.key.passes c.self.inside.table.shared.table_id.slots
          c.index-at.result,
    )
