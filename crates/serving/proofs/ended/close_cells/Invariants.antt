use Rattle.std.proofs.Common.{◌≡◌, ◌+◌, ◌≤◌, ◌++◌, All, length, vec_capacity, vec_len}
use Rattle.std.specs.Prelude.{IsTrue}
use Rattle.shared_cells.specs.Passes.{IsPassOf}
use Rattle.serving.specs.Ended.{IsOfServer, passes_of}
use Rattle.serving.proofs.Closing.{IsPublishedPrefix, turned}
use Rattle.serving.proofs.ended.close_cells.Given as goal

-- one pass more and one worker fewer each time, and `room` has places for all passes
abbrev pub invariant-loop-worker : goal.invariant-loop-worker
invariant-loop-worker l = record {
  all : length l.room.items + length l.workers.items ≡ l.fn.cells.passes;
  enough : vec_len l.room + length l.workers.items ≤ vec_capacity l.room;
  each : All (IsOfServer l.fn.cells l.fn.back.published.publisher) l.workers.items;
  own : All (IsPassOf l.fn.cells) l.room.items;
  gathered : l.room.items ++ turned l.workers.items
      ≡ passes_of l.fn.back.operator l.fn.back.workers.items;
  prefix : IsTrue l.is_known → All (IsPublishedPrefix l.fn.back.published.rulesets) l.workers.items
      → All (IsPublishedPrefix l.fn.back.published.rulesets) l.fn.back.workers.items;
}

abbrev pub decreases-loop-worker : goal.decreases-loop-worker
decreases-loop-worker l = length l.workers.items
