use Rattle.std.proofs.Common.{length, ◌-◌, ◌≡◌, ◌≤◌, take}
use Rattle.std.specs.Io.KnownBytes.{Appends}
use Rattle.net_io.proofs.counted.Counted.write_whole.Given as goal

abbrev pub invariant-loop-written : goal.invariant-loop-written
invariant-loop-written g l =
    (l.written ≤ length l.bytes)
    × Appends (g.W.Write.contents l.initial.self.inner) (g.W.Write.contents l.self.inner)
    (take l.written l.bytes)
    × (l.self.failures ≡ l.initial.self.failures)

abbrev pub decreases-loop-written : goal.decreases-loop-written
decreases-loop-written g l = length l.bytes - l.written
