use Rattle.std.proofs.Common.{◌≡◌, ◌+◌, length, map}
use Rattle.toml.specs.View.{view}
use Rattle.manifest.specs.Rows.{items_from}
use Rattle.manifest.proofs.Prefix.{behind}
use Rattle.manifest.proofs.rows.read_items.Given as goal

-- the rows so far, and those of the remaining items, are all rows
abbrev pub invariant-loop-rest : goal.invariant-loop-rest
invariant-loop-rest g l = record {
  rows : behind l.rows.items (items_from g.R.TableRow.row_of (length l.rows.items + 1)
      (map view l.rest))
      ≡ items_from g.R.TableRow.row_of 1 (map view l.items);
  count : length l.rows.items + length l.rest ≡ length l.items;
}

abbrev pub decreases-loop-rest : goal.decreases-loop-rest
decreases-loop-rest g l = length l.rest
