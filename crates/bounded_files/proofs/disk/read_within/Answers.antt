use Rattle.bounded_files.proofs.Within.{short, taken}
use Rattle.bounded_files.proofs.disk.read_within.Goals as goal

pub returns-clause-read : goal.returns-clause-read
returns-clause-read g c = rw c.whole.ensures (taken _ _ _ _ c.read.ensures)

pub returns-clause-short : goal.returns-clause-short
returns-clause-short g c = rw c.whole.ensures (short _ _ _ _ c.read.ensures)
