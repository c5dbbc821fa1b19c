use Rattle.std.specs.Prelude.{◌≡◌, ◌+◌, ◌≤◌, length, vec_capacity, vec_len}
use Rattle.std.specs.Vec.Iter.{into_iter_items, into_iter_len}
use Rattle.workers.proofs.InPlace.{HasOneEach}
use Rattle.workers.proofs.crew.joined.Given as goal

-- each thread so far has returned what it promised, and `room` has places for the rest
abbrev pub invariant-loop-thread : goal.invariant-loop-thread
invariant-loop-thread g l = record {
  given : HasOneEach (λ thread back. g.P.Promise.kept_by thread.promise back)
      (into_iter_items l.initial.thread-iterator) l.yielded (into_iter_items l.thread-iterator)
      l.room.items;
  room : vec_len l.room + into_iter_len l.thread-iterator ≤ vec_capacity l.room;
  left : into_iter_len l.thread-iterator ≡ length (into_iter_items l.thread-iterator);
}
