use Rattle.std.proofs.Common.{◌*◌, ◌≤◌, map}
use Rattle.cells.specs.Events.{AreZeros}
use Rattle.bench.specs.Runs.{RunsInTurn}
use Rattle.bench.proofs.runs.run_times.Given as goal

abbrev pub invariant-loop-n : goal.invariant-loop-n
invariant-loop-n l = record {
  zero : AreZeros 8192 l.initial.pass;
  runs : RunsInTurn l.program.value (map (λ a. a.value) l.apps) l.initial.pass l.n l.pass l.tally;
  bound : l.tally.instructions ≤ 4096 * l.n;
}
