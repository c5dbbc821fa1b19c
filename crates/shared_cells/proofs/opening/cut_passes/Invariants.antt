use Rattle.std.proofs.Common.{◌≡◌, ◌+◌, ◌-◌, [], All, length}
use Rattle.shared_cells.specs.Passes.{IsNewPass}
use Rattle.shared_cells.specs.Rule.{new_accounts}
use Rattle.shared_cells.proofs.opening.cut_passes.Given as goal

abbrev pub invariant-loop : goal.invariant-loop
invariant-loop l = record {
  same : l.seat.table_id ≡ l.initial.seat.table_id;
  left : l.seat.me ≡ (new_accounts l.counter (l.count + 1 - l.counter), []);
  many : length l.made.items ≡ l.counter;
  each : All (IsNewPass l.words.table_id) l.made.items;
}
