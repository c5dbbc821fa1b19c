use Rattle.std.proofs.Common.{◌≡◌, ◌≤◌, length, take, vec_len, vec_capacity}
use Rattle.world.specs.Headline.{ArePlayed}
use Rattle.world.proofs.run.play.Given as goal

abbrev pub invariant-loop-event : goal.invariant-loop-event
invariant-loop-event l = record {
  many : vec_len l.answers ≡ l.event-index;
  room : length l.events ≤ vec_capacity l.answers;
  run : ArePlayed l.initial.world (take l.event-index l.events) l.answers.items l.world;
}
