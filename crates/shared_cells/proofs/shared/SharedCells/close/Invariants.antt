use Rattle.std.proofs.Common.{◌≡◌, [], ◌++◌, All}
use Rattle.shared_cells.specs.Passes.{lists_of}
use Rattle.shared_cells.specs.Rule.{events_known}
use Rattle.shared_cells.proofs.shared.SharedCells.close.Given as goal

abbrev pub invariant-loop-pass : goal.invariant-loop-pass
invariant-loop-pass l = record {
  same : l.seat.table_id ≡ l.table.shared.table_id;
  empty : l.seat.me.1 ≡ [];
  known : lists_of l.passes.items ++ events_known l.seat.me.0 ≡ lists_of l.fn.passes.items;
  own : All (λ p. p.table ≡ l.table.shared.table_id) l.passes.items;
}

abbrev pub decreases-loop-pass : goal.decreases-loop-pass
decreases-loop-pass l = goal.left-loop-pass l
