use Rattle.std.proofs.Common.{length}
use Rattle.load.specs.Digest.{digest_of}
use Rattle.load.proofs.Framing.{GoesOn}
use Rattle.load.proofs.digest.digest_of.Given as goal

abbrev pub invariant-loop-left : goal.invariant-loop-left
invariant-loop-left l = GoesOn l.hasher l.left (digest_of l.manifest l.apps)

abbrev pub decreases-loop-left : goal.decreases-loop-left
decreases-loop-left l = length l.left
