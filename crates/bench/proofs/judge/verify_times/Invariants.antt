use Rattle.std.proofs.Common.{◌<◌}
use Rattle.bench.specs.Judged.{AreAccepted}
use Rattle.bench.proofs.judge.verify_times.Given as goal

abbrev pub invariant-loop-n : goal.invariant-loop-n
invariant-loop-n l = 0 < l.n → AreAccepted l.bytes
