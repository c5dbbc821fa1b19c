use Rattle.workers.proofs.ports.«+require_descriptors».Given as goal

abbrev pub decreases-require_descriptors : goal.decreases-require_descriptors
decreases-require_descriptors l = l.count
