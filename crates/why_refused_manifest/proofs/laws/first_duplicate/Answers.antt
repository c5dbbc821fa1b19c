use Rattle.why_refused_manifest.proofs.First.{duplicate_first}
use Rattle.why_refused_manifest.proofs.laws.first_duplicate.Goals as goal

pub returns : goal.returns
returns c = duplicate_first
