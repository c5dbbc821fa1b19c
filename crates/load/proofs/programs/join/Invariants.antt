use Rattle.std.proofs.Common.{◌≡◌, ◌+◌, ◌≤◌, ◌++◌, All, length}
use Rattle.std.specs.Prelude.{vec_capacity, vec_len}
use Rattle.std.specs.Vec.Iter.{into_iter_items, into_iter_len}
use Rattle.load.specs.JudgedApps.{AreAppPrograms, IsJudgedApp, sources_of}
use Rattle.load.proofs.programs.join.Given as goal

-- the apps so far, followed by those that are left, are all; and `room` has places for the rest
abbrev pub invariant-loop-sources : goal.invariant-loop-sources
invariant-loop-sources l = record {
  so_far : sources_of l.room.items ++ into_iter_items l.sources-iterator ≡ l.fn.apps.items;
  judged : All IsJudgedApp l.room.items;
  left : AreAppPrograms (into_iter_items l.sources-iterator) (into_iter_items l.left);
  room : vec_len l.room + into_iter_len l.sources-iterator ≤ vec_capacity l.room;
  count : into_iter_len l.sources-iterator ≡ length (into_iter_items l.sources-iterator);
  behind : into_iter_len l.left ≡ length (into_iter_items l.left);
}
