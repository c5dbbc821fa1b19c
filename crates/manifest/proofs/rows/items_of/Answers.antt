use Rattle.std.proofs.Common.{option_map, ap}
use Rattle.manifest.specs.Rows.{data_of}
use Rattle.manifest.proofs.Items.{data_of-items}
use Rattle.manifest.proofs.rows.items_of.Goals as goal

pub returns-in-Some : goal.returns-in-Some
returns-in-Some c =
    rw (c.as_slice.ensures.value, ← data_of-items c.in-Some.items.now.items)
    (ap (option_map data_of) c.in-Some.ensures)
