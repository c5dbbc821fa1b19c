use Rattle.folder_facts.specs.Digests.{AreLeft}
use Rattle.folder_facts.proofs.left.push_step.Given as goal

-- each digest is of what steps left if those before are
abbrev pub invariant-loop-first : goal.invariant-loop-first
invariant-loop-first g l =
    AreLeft (g.D.Disk.known l.recorded.disk.now) l.recorded.manifest.now l.recorded.steps.now
    l.fn.digests.items
    → AreLeft (g.D.Disk.known l.recorded.disk.now) l.recorded.manifest.now l.recorded.steps.now
    l.digests.items
