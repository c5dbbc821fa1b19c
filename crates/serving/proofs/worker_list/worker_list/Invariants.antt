use Rattle.std.proofs.Common.{◌≡◌, ◌+◌, ◌≤◌, All, length}
use Rattle.atomic_table.specs.Seated.{TableId}
use Rattle.shared_cells.specs.Passes.{IsNewPass}
use Rattle.serving.specs.Staff.{IsNewWorker}
use Rattle.serving.proofs.worker_list.worker_list.Given as goal

-- one worker more and one pass fewer each time, and nothing is published
abbrev pub invariant-loop-pass : goal.invariant-loop-pass
invariant-loop-pass l = record {
  all : length l.workers.items + length l.passes.items ≡ length l.fn.passes.items;
  places : length l.passes.items ≤ l.publisher.places;
  each : (table : TableId) → All (IsNewPass table) l.fn.passes.items
      → All (IsNewPass table) l.passes.items
      × All (IsNewWorker table l.initial.publisher.known) l.workers.items;
  known : l.publisher.known ≡ l.initial.publisher.known;
  latest : l.publisher.latest ≡ l.initial.publisher.latest;
}

abbrev pub decreases-loop-pass : goal.decreases-loop-pass
decreases-loop-pass l = length l.passes.items
