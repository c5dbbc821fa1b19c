use Rattle.manifest.proofs.Readings.{one_reading}
use Rattle.manifest.proofs.laws.one_reading.Goals as goal

pub returns : goal.returns
returns c = one_reading
