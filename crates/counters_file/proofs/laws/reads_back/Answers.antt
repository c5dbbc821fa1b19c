use Rattle.counters_file.proofs.Back.{reads_back}
use Rattle.counters_file.proofs.laws.reads_back.Goals as goal

pub returns : goal.returns
returns c = reads_back c.arrays_lie_apart.ensures.apart
