use Rattle.folder_facts.specs.Digests.{AreLeft}
use Rattle.folder_facts.proofs.left.follow.Given as goal

-- each digest is of what steps left if those before are
abbrev pub invariant-loop-fewer : goal.invariant-loop-fewer
invariant-loop-fewer g l =
    AreLeft (g.D.Disk.known l.recorded.disk.now) l.recorded.manifest.now l.recorded.steps.now
    l.fn.digests.items
    → AreLeft (g.D.Disk.known l.recorded.disk.now) l.recorded.manifest.now l.recorded.steps.now
    l.digests.items
