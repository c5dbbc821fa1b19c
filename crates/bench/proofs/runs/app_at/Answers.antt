use Rattle.std.proofs.Common.{◌∙◌}
use Rattle.bench.proofs.runs.app_at.Goals as goal

pub returns : goal.returns
returns c = c.in-Ok-new.ensures.ok ∙ c.in-Ok.ensures
