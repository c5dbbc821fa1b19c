use Rattle.why_refused_manifest.proofs.First.{schema_error_first}
use Rattle.why_refused_manifest.proofs.laws.first_schema_error.Goals as goal

pub returns : goal.returns
returns c = schema_error_first
